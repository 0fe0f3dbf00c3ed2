use Rattle.std.proofs.Common.{◌≡◌, ◌≤◌, ℕ, true, List, length, sym, ap, ◌∙◌, subst, arith}
use Rattle.std.proofs.lemmas.List.{length-map}
use Rattle.std.specs.Prelude.{is_some}
use Rattle.golf_theory.specs.Maps.{keys, find, Rises, AllBelow}
use Rattle.golf_theory.specs.Membership.{is_in}
use Rattle.golf_theory.specs.Flags.{kept}
use Rattle.golf_model.specs.Views.{GoroutineView}
use Rattle.golf_model.specs.State.{State}
use Rattle.golf_state.specs.Inside.{plain_state}
use Rattle.golf_state_goroutines.specs.Places.{plain_entry, plain_entries}
use Rattle.golf_state_goroutines.specs.Ready.{AllReady}
use Rattle.golf_state.specs.Enqueued.{AreEnqueued}
use Rattle.golf_data.specs.declared.goroutine.Goroutine.{Goroutine}
use Rattle.golf_theory.proofs.Ranks.{Rises-kept, AllBelow-kept}
use Rattle.golf_blocks.proofs.Parts.{kept-length}
use Rattle.golf_state.proofs.Retaining.{map-kept, ready-kept}
use Rattle.golf_state.proofs.Leaving.{enqueued-kept}
use Rattle.golf_state_queues.specs.WaitQueues.{KeepsWaiters}
use Rattle.golf_state.proofs.state.State.retain_goroutines.Goals as goal

pub retain-requires : goal.retain-requires
retain-requires c = omega (
  arith,
  c.requires.count,
  ap (λ (t : State). length t.goroutines) c.self.view_is,
  length-map c.self.inside.roster.places plain_entry,
)

pub invariant_of-self : goal.invariant_of-self
invariant_of-self c =
    let s = c.self.inside in
    let k = c.self.invariant.kept in
    let stays = c.args.stays.now in
    let ps = s.roster.places in
    let qs = c.retain.new.self.places in
    let es = plain_entries ps in
    let e : plain_entries qs ≡ kept stays es = ap plain_entries c.retain.ensures.places
    ∙ map-kept plain_entry stays ps in
    let fewer : length qs ≤ length ps = subst (λ (qs : List (ℕ × Goroutine)). length qs ≤ length ps)
    (sym c.retain.ensures.places)
    (kept-length stays ps) in
    record {
      kept = record {
        rises = subst (Rises 0) (sym e) (Rises-kept 0 stays es k.rises);
        below = subst (AllBelow s.next_goroutine) (sym e) (AllBelow-kept s.next_goroutine stays es k.below);
        zero = ap (λ (fs : List (ℕ × GoroutineView)). is_some (find 0 fs)) e
            ∙ (ap (λ (t : State). is_some (find 0 (kept stays t.goroutines))) c.self.view_is ∙ c.requires.zero);
        running = c.retain.ensures.running;
        few = omega (arith, fewer, k.few);
        limit = k.limit;
        ready = subst AllReady (sym c.retain.ensures.places) (ready-kept stays ps k.ready);
      };
      enqueued = subst (λ (xs : List (ℕ × GoroutineView)). AreEnqueued s.are_mutexes_enqueued xs
          c.narrow_queues.new.queues s.next_ticket) (sym e)
          (enqueued-kept s.are_mutexes_enqueued stays es s.waiting c.narrow_queues.new.queues s.next_ticket
          c.self.invariant.enqueued
          (subst (λ (xs : List (ℕ × GoroutineView)). KeepsWaiters
          (λ t h. is_in h (keys xs) ≡ true) s.waiting c.narrow_queues.new.queues) e c.narrow_queues.ensures.kept)
          c.narrow_queues.ensures.below);
      finalisers = c.self.invariant.finalisers;
    }

pub returns : goal.returns
returns c =
    let s = c.self.inside in
    rw (← c.self.view_is)
    (ap (λ (es : List (ℕ × GoroutineView)). record (plain_state s) { goroutines = es })
    (ap plain_entries c.retain.ensures.places ∙ map-kept plain_entry c.args.stays.now s.roster.places))
