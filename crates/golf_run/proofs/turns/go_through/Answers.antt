use Rattle.std.proofs.Common.{refl, sym, subst, ap, ◌∙◌}
use Rattle.std.specs.Io.KnownBytes.{Appends}
use Rattle.golf_model.specs.Presence.{IsWhole}
use Rattle.golf_reclaim.specs.RunBook.{AreGone}
use Rattle.golf_run_texts.specs.Output.{joined}
use Rattle.golf_run.specs.Told.{told_by, totalled, noted, collected}
use Rattle.golf_run.specs.PendingEvents.{pending_left}
use Rattle.golf_run.specs.HasRun.{sinks}
use Rattle.golf_run.specs.UnderWay.{IsGoing}
use Rattle.golf_run.specs.HasGone.{WentThrough}
use Rattle.golf_run.proofs.Ending.{went, tell-stopped, turn-stopped}
use Rattle.golf_run.proofs.Stepping.{starts, going-quiet, going-loud, whole-next, gone-next, few-next, event-next}
use Rattle.golf_run.proofs.Stepping.{report-next}
use Rattle.golf_run.proofs.Silent.{come-next, stopped-going}
use Rattle.golf_run.proofs.Advanced.{advanced-some, advanced-not, advanced-none}
use Rattle.golf_run.proofs.turns.go_through.Goals as goal

pub loop-book-init : goal.loop-book-init
loop-book-init g c = record {
  going = starts (c.new-coming.ensures.left ∙ c.new-events.ensures.left)
      (c.new-coming.ensures.done ∙ c.new-events.ensures.none_done) c.in_ok-state.ensures c.new-book.ensures refl;
  steady = record { out = refl; err = refl };
}

pub returns-in_err-collects : goal.returns-in_err-collects
returns-in_err-collects g c =
    let a = advanced-not c.in_err-collects.was c.advance.ensures in
    let next = come-next a.come c.loop-book.invariant.going in
    turn-stopped c.from_residual-in_err-collects.result c.from_residual-in_err-collects.ensures.0
    c.from_residual-in_err-collects.ensures.1 (event-next next c.loop-book.invariant.steady)
    (record { after = c.advance.new.state; failed = a.failed })

pub tell-requires-clause-whole : goal.tell-requires-clause-whole
tell-requires-clause-whole g c = λ κs within.
    let a = advanced-some c.in-Some.is c.in_ok-collects.ensures in
    subst IsWhole (sym a.stands) (whole-next (come-next a.come c.loop-book.invariant.going))

pub tell-requires-clause-gone : goal.tell-requires-clause-gone
tell-requires-clause-gone g c = λ κs within.
    let a = advanced-some c.in-Some.is c.in_ok-collects.ensures in
    subst (AreGone c.loop-book.book) (sym a.stands) (gone-next (come-next a.come c.loop-book.invariant.going))

pub tell-requires-clause-count : goal.tell-requires-clause-count
tell-requires-clause-count g c = λ κs within.
    let a = advanced-some c.in-Some.is c.in_ok-collects.ensures in
    few-next (come-next a.come c.loop-book.invariant.going) c.requires.limits

pub returns-in_err-totals : goal.returns-in_err-totals
returns-in_err-totals g c =
    let a = advanced-some c.in-Some.is c.in_ok-collects.ensures in
    let next = come-next a.come c.loop-book.invariant.going in
    let before = report-next next c.sets_finalisers.ensures
    (sym a.wants_one ∙ c.if-collects.true) a.got a.steady c.loop-book.invariant.steady in
    tell-stopped c.from_residual-in_err-totals.result c.from_residual-in_err-totals.ensures.0
    c.from_residual-in_err-totals.ensures.1 before (record {
      outcome = c.tell.result;
      state = c.advance.new.state;
      later = c.tell.new.state;
      next = c.tell.new.book;
      was = c.in_err-totals.was;
      stands = a.stands;
      has_told = c.tell.ensures;
    })

pub loop-book-preserved-then-collects : goal.loop-book-preserved-then-collects
loop-book-preserved-then-collects g c =
    let a = advanced-some c.in-Some.is c.in_ok-collects.ensures in
    let next = come-next a.come c.loop-book.invariant.going in
    let recover = c.args.options.recover in
    let sets = c.sets_finalisers.result in
    let told = c.in_ok-totals.ensures in
    record {
      going = going-loud next c.sets_finalisers.ensures a.got (sym a.wants_one ∙ c.if-collects.true)
          (told.0 ∙ ap (totalled recover sets c.loop-book.book) a.stands)
          (told.1 ∙ ap (collected recover sets) a.stands)
          (told.2 ∙ ap (noted recover sets c.loop-book.book) a.stands)
          (subst (λ s. Appends (g.E.Sink.written c.loop-book.err) (g.E.Sink.written c.tell.new.err)
          (joined (told_by recover sets c.args.options.why c.loop-book.book s))) a.stands told.3);
      steady = record {
        out = a.steady ∙ c.loop-book.invariant.steady.out;
        err = told.4
            ∙ c.loop-book.invariant.steady.err;
      };
    }

pub loop-book-preserved : goal.loop-book-preserved
loop-book-preserved g c =
    let a = advanced-some c.in-Some.is c.in_ok-collects.ensures in
    let next = come-next a.come c.loop-book.invariant.going in
    record {
      going = subst (λ s. IsGoing c.args.code.now c.args.options
          (pending_left c.advance.new.coming) c.advance.new.coming.events.done s c.loop-book.book c.loop-book.totals
          (sinks (g.O.Sink.written c.args.out.now) (g.O.Sink.faults c.args.out.now) (g.E.Sink.written c.args.err.now)
          (g.E.Sink.faults c.args.err.now))
          (sinks (g.O.Sink.written c.advance.new.out) (g.O.Sink.faults c.advance.new.out)
          (g.E.Sink.written c.loop-book.err) (g.E.Sink.faults c.loop-book.err)))
          (sym a.stands) (going-quiet next a.got (sym a.wants_one ∙ c.if-collects.false));
      steady = record { out = a.steady ∙ c.loop-book.invariant.steady.out; err = c.loop-book.invariant.steady.err };
    }

pub returns : goal.returns
returns g c =
    let a = advanced-none c.in_default.is c.in_ok-collects.ensures in
    let s = stopped-going a.stopped c.loop-book.invariant.going in
    let course = went s.0 s.1 (record {
      turns = c.turns_done.result;
      ending = c.ending.result;
      totals = c.loop-book.totals;
    }) c.turns_done.ensures c.ending.ensures refl c.loop-book.invariant.steady in
    subst (λ f. WentThrough (record {
      turns = c.turns_done.result;
      ending = c.ending.result;
      totals = c.loop-book.totals;
    }) c.args.code.now c.args.options
    (sinks (g.O.Sink.written c.args.out.now) (g.O.Sink.faults c.args.out.now) (g.E.Sink.written c.args.err.now)
    (g.E.Sink.faults c.args.err.now)) (sinks (g.O.Sink.written c.advance.new.out) f
    (g.E.Sink.written c.loop-book.err) (g.E.Sink.faults c.loop-book.err))) (sym a.steady)
    (subst (λ o. WentThrough (record {
      turns = c.turns_done.result;
      ending = c.ending.result;
      totals = c.loop-book.totals;
    }) c.args.code.now c.args.options
    (sinks (g.O.Sink.written c.args.out.now) (g.O.Sink.faults c.args.out.now) (g.E.Sink.written c.args.err.now)
    (g.E.Sink.faults c.args.err.now)) (sinks o (g.O.Sink.faults c.loop-book.out) (g.E.Sink.written c.loop-book.err)
    (g.E.Sink.faults c.loop-book.err))) (sym a.out_same) course)
