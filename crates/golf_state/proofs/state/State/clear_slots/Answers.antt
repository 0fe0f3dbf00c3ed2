use Rattle.std.proofs.Common.{◌≡◌, ℕ, List, Option, subst, sym, ap, ◌∙◌}
use Rattle.golf_theory.specs.Maps.{find}
use Rattle.golf_model.specs.Views.{GoroutineView, goroutine_view}
use Rattle.golf_model.specs.State.{is_running}
use Rattle.golf_model.specs.Changes.{become, apply_all}
use Rattle.golf_model.specs.ClearedSlots.{clears}
use Rattle.golf_state.specs.Inside.{plain_state}
use Rattle.golf_state.specs.Enqueued.{AreEnqueued}
use Rattle.golf_state_goroutines.specs.Places.{plain_entries}
use Rattle.golf_state.proofs.ClearingLaws.{tidied-clears}
use Rattle.golf_state.proofs.EnqueuedLaws.{enqueued-same}
use Rattle.golf_state.proofs.PlaceLaws.{none-there, lent-found, lent-ready, lent-set, lent-kept, runs-same}
use Rattle.golf_state.proofs.state.State.clear_slots.Goals as goal

pub invariant_of-self : goal.invariant_of-self
invariant_of-self c =
    let s = c.self.inside in
    let gs = s.roster.places in
    let g = c.args.g.0 in
    let k = c.self.invariant.kept in
    let lent = c.get_mut.result.now in
    let here = c.get_mut.ensures.here in
    let x = c.clear_goroutine.new.goroutine in
    let was = goroutine_view lent in
    let v = goroutine_view x in
    let found = lent-found gs g lent here k.rises in
    let mode : was.mode ≡ v.mode = sym c.clear_goroutine.ensures.mode in
    record {
      kept = lent-kept gs g lent here k.rises x k
          (c.clear_goroutine.ensures.ready (lent-ready gs g lent here k.rises k.ready))
          (k.running ∙ runs-same (plain_entries gs) g was v k.rises found (ap is_running mode));
      enqueued = subst (λ (es : List (ℕ × GoroutineView)). AreEnqueued s.are_mutexes_enqueued es s.waiting
          s.next_ticket) (sym (lent-set gs g lent here k.rises x))
          (enqueued-same s.are_mutexes_enqueued
          (plain_entries gs) s.waiting s.next_ticket g was v c.self.invariant.enqueued k.rises found mode);
      finalisers = c.self.invariant.finalisers;
    }

pub returns-then-has : goal.returns-then-has
returns-then-has c =
    let s = c.self.inside in
    let gs = s.roster.places in
    let g = c.args.g.0 in
    let k = c.self.invariant.kept in
    let lent = c.get_mut.result.now in
    let here = c.get_mut.ensures.here in
    rw (← c.self.view_is)
    (ap (λ (es : List (ℕ × GoroutineView)). record (plain_state s) { goroutines = es })
    (lent-set gs g lent here k.rises c.clear_goroutine.new.goroutine)
    ∙ ap (λ (r : GoroutineView). become g r (plain_state s)) c.clear_goroutine.ensures.cleared
    ∙ tidied-clears c.args.code.now g (goroutine_view lent) (plain_state s) k.rises (lent-found gs g lent here k.rises))

pub returns-else-has : goal.returns-else-has
returns-else-has c =
    let s = c.self.inside in
    let g = c.args.g.0 in
    let none = none-there c.has.result (find g (plain_entries s.roster.places)) c.has.ensures c.if-has.false in
    rw (← c.self.view_is) (sym (ap (λ (o : Option GoroutineView). apply_all (clears c.args.code.now g o)
    (plain_state s)) none))
