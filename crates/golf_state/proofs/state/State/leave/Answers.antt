use Rattle.std.proofs.Common.{◌==◌, not, ℕ, List, subst, sym, ap, ◌∙◌, arith}
use Rattle.std.specs.Prelude.{is_some}
use Rattle.golf_theory.specs.Maps.{find, Rises, AllBelow}
use Rattle.golf_theory.specs.Stored.{without}
use Rattle.golf_theory.proofs.MapOrder.{Rises-only, AllBelow-only}
use Rattle.golf_model.specs.Views.{GoroutineView}
use Rattle.golf_state.specs.Inside.{AreKept, plain_state}
use Rattle.golf_state_goroutines.specs.Goroutines.{Goroutines}
use Rattle.golf_state_goroutines.specs.Places.{plain_entries, running_of}
use Rattle.golf_state.specs.Left.{leaves_where}
use Rattle.golf_state.specs.Enqueued.{AreEnqueued}
use Rattle.golf_state_queues.proofs.Partings.{below-without}
use Rattle.golf_state.proofs.Leaving.{others-stay-where}
use Rattle.golf_state.proofs.EnqueuedLaws.{enqueued-left}
use Rattle.golf_state.proofs.PlaceLaws.{there-left, entries-left, ready-left, fewer-left, runs-left}
use Rattle.golf_state.proofs.state.State.leave.Goals as goal

pub invariant_of-self : goal.invariant_of-self
invariant_of-self c =
    let s = c.self.inside in
    let gs = s.roster.places in
    let es = plain_entries gs in
    let g = c.args.g.0 in
    let k = c.self.invariant.kept in
    let e = ap (λ (r : Goroutines). plain_entries r.places) c.take.ensures ∙ entries-left gs g in
    let was = find g es in
    record {
      kept = subst (λ (r : Goroutines). AreKept r.places r.running s.next_goroutine) (sym c.take.ensures) (record {
        rises = subst (Rises 0) (sym (entries-left gs g)) (Rises-only 0 (λ h. not (h == g)) es k.rises);
        below = subst (AllBelow s.next_goroutine) (sym (entries-left gs g))
            (AllBelow-only s.next_goroutine (λ h. not (h == g)) es k.below);
        zero = ap (λ (fs : List (ℕ × GoroutineView)). is_some (find 0 fs)) (entries-left gs g)
            ∙ there-left g 0 es c.requires k.zero;
        running = ap (without g) k.running ∙ runs-left es g ∙ ap running_of (sym (entries-left gs g));
        few = omega (arith, fewer-left gs g, k.few);
        limit = k.limit;
        ready = ready-left gs g k.ready;
      });
      enqueued = subst (λ (fs : List (ℕ × GoroutineView)). AreEnqueued s.are_mutexes_enqueued fs c.forget.new.queues
          s.next_ticket) (sym e) (enqueued-left s.are_mutexes_enqueued es s.waiting c.forget.new.queues s.next_ticket
          c.self.invariant.enqueued k.rises g (below-without
          (leaves_where g was) s.waiting c.forget.new.queues c.forget.ensures)
          (others-stay-where g was s.waiting c.forget.new.queues c.forget.ensures));
      finalisers = c.self.invariant.finalisers;
    }

pub returns : goal.returns
returns c =
    rw (← c.self.view_is) (ap (λ (es : List (ℕ × GoroutineView)).
    record (plain_state c.self.inside) { goroutines = es })
    (ap (λ (r : Goroutines). plain_entries r.places) c.take.ensures
    ∙ entries-left c.self.inside.roster.places c.args.g.0))
