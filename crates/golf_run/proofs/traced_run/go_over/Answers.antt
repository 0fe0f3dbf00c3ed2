use Rattle.std.proofs.Common.{◌≡◌, ◌++◌, [], refl, sym, ap, subst, ◌∙◌}
use Rattle.std.proofs.KnownBytes.{Appends-nil}
use Rattle.golf_model.specs.State.{State}
use Rattle.golf_model.specs.Presence.{IsWhole}
use Rattle.golf_reclaim.specs.RunBook.{AreGone}
use Rattle.golf_run_schedules.specs.Events.{event_of}
use Rattle.golf_run.specs.TraceWrites.{turn_line_of, lines_if, book_if, totals_if, state_if}
use Rattle.golf_run.proofs.Stepping.{starts, whole-next, gone-next, few-next}
use Rattle.golf_run.proofs.Tracings.{begun, next, event-failed, text-stopped, text-cut, traced-on, traced-through}
use Rattle.golf_run.proofs.traced_run.go_over.Goals as goal

pub loop-event-init : goal.loop-event-init
loop-event-init g c = record {
  going = starts c.new-events.ensures.left c.new-events.ensures.none_done c.in_ok-state.ensures c.new.ensures refl;
  done = [];
  order = begun c.args.code.now c.args.options _ _ _ _ c.new-events.ensures.left c.new-events.ensures.none_done
      c.in_ok-state.ensures c.new.ensures;
  got = (Appends-nil _, Appends-nil _);
  steady = record { out = refl; err = refl };
}

pub returns-in_err-happened : goal.returns-in_err-happened
returns-in_err-happened g c =
    event-failed c.loop-event.invariant c.in-Some.ensures c.in_err-happened.field-0.0 c.happen.new.state _ _
    c.in_err-happened.ensures c.from_residual-in_err-happened.result c.from_residual-in_err-happened.ensures.0
    c.from_residual-in_err-happened.ensures.1

pub follow-requires-clause-whole : goal.follow-requires-clause-whole
follow-requires-clause-whole g c κs within =
    let h = c.in_ok-happened.ensures in
    subst IsWhole (sym h.1.1) (whole-next (next c.loop-event.invariant c.in-Some.ensures))

pub follow-requires-clause-gone : goal.follow-requires-clause-gone
follow-requires-clause-gone g c κs within =
    let h = c.in_ok-happened.ensures in
    subst (AreGone c.loop-event.accounts.book) (sym h.1.1) (gone-next (next c.loop-event.invariant c.in-Some.ensures))

pub follow-requires-clause-count : goal.follow-requires-clause-count
follow-requires-clause-count g c κs within =
    few-next (next c.loop-event.invariant c.in-Some.ensures) c.requires.limits

pub returns-in_err-text : goal.returns-in_err-text
returns-in_err-text g c =
    let h = c.in_ok-happened.ensures in
    text-stopped c.loop-event.invariant c.in-Some.ensures _ _ h.1.2 h.1.3 c.from_residual-in_err-text.result
    c.from_residual-in_err-text.ensures.0 c.from_residual-in_err-text.ensures.1

pub returns-in_err-write_all : goal.returns-in_err-write_all
returns-in_err-write_all g c =
    let code = c.args.code.now in
    let e = event_of c.in-Some.event in
    let s : State = c.loop-event.state in
    let recover = c.args.options.recover in
    let why = c.args.options.why in
    let book = c.loop-event.accounts.book in
    let sets = c.sets_finalisers.ensures in
    let h = c.in_ok-happened.ensures in
    let line = h.0 ∙ ap (λ n. turn_line_of n code e s) c.turns_done.ensures in
    let text = c.as_slice.ensures ∙ c.in_ok-text.ensures.told
    ∙ (λ i. line i ++ lines_if recover (sets i) why (h.1.0 i) book (h.1.1 i)) in
    text-cut c.loop-event.invariant c.in-Some.ensures _ _ h.1.2 h.1.3 _ _ c.as_slice.result.now text
    c.in_err-write_all.ensures.prefix c.in_err-write_all.ensures.cause.failed c.from_residual-in_err-write_all.result
    c.from_residual-in_err-write_all.ensures.0 c.from_residual-in_err-write_all.ensures.1

pub loop-event-preserved : goal.loop-event-preserved
loop-event-preserved g c =
    let code = c.args.code.now in
    let e = event_of c.in-Some.event in
    let s : State = c.loop-event.state in
    let recover = c.args.options.recover in
    let why = c.args.options.why in
    let book = c.loop-event.accounts.book in
    let totals = c.loop-event.accounts.totals in
    let sets = c.sets_finalisers.ensures in
    let h = c.in_ok-happened.ensures in
    let collects = c.in_ok-happened.happened.collects in
    let line = h.0 ∙ ap (λ n. turn_line_of n code e s) c.turns_done.ensures in
    let text = c.as_slice.ensures ∙ c.in_ok-text.ensures.told
    ∙ (λ i. line i ++ lines_if recover (sets i) why (h.1.0 i) book (h.1.1 i)) in
    traced-on c.loop-event.invariant c.in-Some.ensures _ _ h.1.2 h.1.3 _ _ c.as_slice.result.now text
    c.in_ok-write_all.ensures.ok c.in_ok-write_all.ensures.cause.steady h.1.0
    (c.in_ok-text.ensures.state ∙ (λ i. state_if recover (sets i) collects (h.1.1 i)))
    (c.in_ok-text.ensures.book ∙ (λ i. book_if recover (sets i) collects book (h.1.1 i)))
    (c.in_ok-text.ensures.totals ∙ (λ i. totals_if recover (sets i) collects book totals (h.1.1 i)))

pub returns : goal.returns
returns g c = traced-through c.loop-event.invariant c.in_default.ensures (record {
  turns = c.turns_done-2.result;
  ending = c.ending.result;
  totals = c.loop-event.accounts.totals;
}) c.turns_done-2.ensures c.ending.ensures refl
