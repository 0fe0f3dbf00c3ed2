use Rattle.std.proofs.Common.{◌≡◌, ℕ, ◌+◌, List, [], ◌∷◌, ◌++◌, length-append, subst, refl, sym, ap, ◌∙◌, rules, arith}
use Rattle.golf_data.specs.declared.goroutine.Mode.{Mode}
use Rattle.std.specs.Prelude.{is_some}
use Rattle.golf_theory.specs.Maps.{find, add, Rises, AllBelow}
use Rattle.golf_theory.proofs.MapOrder.{Rises-add, AllBelow-add, AllBelow-more}
use Rattle.golf_model.specs.Views.{GoroutineView, frame_views}
use Rattle.golf_model.specs.State.{is_running}
use Rattle.golf_state.specs.Inside.{AreKept, plain_state}
use Rattle.golf_state_goroutines.specs.Goroutines.{Goroutines}
use Rattle.golf_state_goroutines.specs.Places.{plain_entries, running_of}
use Rattle.golf_state.specs.Enqueued.{AreEnqueued}
use Rattle.golf_state.proofs.EnqueuedLaws.{enqueued-spawned}
use Rattle.golf_state_goroutines.proofs.PlaceLaws.{under-next}
use Rattle.golf_state.proofs.PlaceLaws.{push-at, there-add, runs-spawned, number-of}
use Rattle.golf_state.proofs.Readiness.{ready-push, running-ready}
use Rattle.golf_state.proofs.state.State.spawn.Goals as goal

pub add-requires-clause-below : goal.add-requires-clause-below
add-requires-clause-below c = rw (number-of c.in_ok-place.place _ _ c.in_ok-place.ensures) c.self.invariant.kept.below

pub add-requires-clause-under : goal.add-requires-clause-under
add-requires-clause-under c = rw (number-of c.in_ok-place.place _ _ c.in_ok-place.ensures)
    (under-next _ _ _ c.self.invariant.kept.running c.self.invariant.kept.below)

pub invariant_of-self-2 : goal.invariant_of-self-2
invariant_of-self-2 c =
    let s = c.self.inside in
    let gs = s.roster.places in
    let es = plain_entries gs in
    let n = s.next_goroutine in
    let k = c.self.invariant.kept in
    let q = c.in_ok-place.place in
    let v : GoroutineView = record { frames = frame_views c.args.frames; mode = Mode.Running; started = c.args.line } in
    let next : c.in_ok-next.next ≡ n + 1 = search rules in
    let e : plain_entries (gs ++ q ∷ []) ≡ add n v es = push-at gs q n v c.in_ok-place.ensures in
    let number = number-of q n v c.in_ok-place.ensures in
    record {
      kept = subst (λ (r : Goroutines). AreKept r.places r.running c.in_ok-next.next) (sym c.in_ok-add.ensures.ok)
          (record {
            rises = subst (Rises 0) (sym e) (Rises-add 0 n v es (omega arith) k.below k.rises);
            below = subst (AllBelow c.in_ok-next.next) (sym e)
                (AllBelow-add c.in_ok-next.next n v es (omega (arith, next))
                (AllBelow-more n c.in_ok-next.next es (omega (arith, next)) k.below));
            zero = ap (λ (fs : List (ℕ × GoroutineView)). is_some (find 0 fs)) e ∙ there-add 0 es ((n, v) ∷ []) k.zero;
            running =
                (λ i. k.running i ++ number i ∷ [])
                ∙ runs-spawned es n v refl
                ∙ ap running_of (sym e);
            few = omega (arith, length-append gs (q ∷ []), next, k.few);
            limit = search rules;
            ready = ready-push gs q k.ready (running-ready q.1.mode q.1.frames
                (ap (λ (d : ℕ × GoroutineView). is_running d.1.mode) c.in_ok-place.ensures));
          });
      enqueued = subst (λ (fs : List (ℕ × GoroutineView)). AreEnqueued s.are_mutexes_enqueued fs s.waiting
          s.next_ticket) (sym (ap (λ (r : Goroutines). plain_entries r.places) c.in_ok-add.ensures.ok ∙ e))
          (enqueued-spawned s.are_mutexes_enqueued es s.waiting s.next_ticket n v c.self.invariant.enqueued refl);
      finalisers = c.self.invariant.finalisers;
    }

pub returns-clause-ok : goal.returns-clause-ok
returns-clause-ok c =
    let s = c.self.inside in
    let n = s.next_goroutine in
    let v : GoroutineView = record { frames = frame_views c.args.frames; mode = Mode.Running; started = c.args.line } in
    let next : c.in_ok-next.next ≡ n + 1 = search rules in
    let e : plain_entries c.add.new.self.places ≡ add n v (plain_entries s.roster.places) =
    ap (λ (r : Goroutines). plain_entries r.places) c.in_ok-add.ensures.ok
    ∙ push-at s.roster.places c.in_ok-place.place n v c.in_ok-place.ensures in
    rw (← c.self.view_is) (λ i. record (plain_state s) { goroutines = e i; next_goroutine = next i })
