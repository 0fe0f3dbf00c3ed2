-- The live set is closed, so the dead stand still.
-- For: `dead_are_still`, `live_is_closed`, src/lib.rt
-- By: cases of what refers to an object and of what wakes a goroutine; no induction
use Rattle.std.proofs.Common.{ℕ, ◌+◌, ◌<◌, ◌≤◌, List, ◌⊎◌, inl, inr, arith}
use Rattle.golf_theory.specs.Membership.{In, Every}
use Rattle.golf_theory.specs.Maps.{Entry}
use Rattle.golf_theory.proofs.Lists.{Every-from}
use Rattle.golf_theory.proofs.MapEntries.{Entry-Every, In-keys}
use Rattle.golf_theory.proofs.MapFinds.{Entry-below}
use Rattle.golf_theory.proofs.Derivations.{Reached-root, Reached-step}
use Rattle.golf_data.specs.declared.value.Object.{Object}
use Rattle.golf_model.specs.Views.{GoroutineView}
use Rattle.golf_model.specs.Values.{refs}
use Rattle.golf_model.specs.State.{State}
use Rattle.golf_model.specs.Waiters.{waits_of}
use Rattle.golf_model.specs.Refs.{object_refs, goroutine_refs, queue_refs, waited}
use Rattle.golf_model.specs.LiveSet.{Node, Live, LiveRoot, LiveStep}
use Rattle.golf_model.specs.Futures.{Numbered, UpTo}
use Rattle.golf_model_futures.specs.Invariant.{Closed}
use Rattle.golf_model_futures.specs.Laws.{DeadAreStill}
use Rattle.golf_model_futures.proofs.RefLaws.{waits-object, goroutine-waits}
use Rattle.golf_model_futures.proofs.Staying.{after-run}

-- live, or not given yet
abbrev pub LiveObject : State → ℕ → Type 0
LiveObject s o = Live s (Node.AnObject o) ⊎ (s.last_object < o)

abbrev pub LiveGoroutine : State → ℕ → Type 0
LiveGoroutine s g = Live s (Node.AGoroutine g) ⊎ (s.next_goroutine ≤ g)

module _ (s : State) (n : Numbered s) where
  root : (x : Node) → LiveRoot s x → Live s x
  root x h = Reached-root (LiveRoot s) (LiveStep s) x h

  next : (q x : Node) → Live s q → LiveStep s q x → Live s x
  next q x h l = Reached-step (LiveRoot s) (LiveStep s) q x h l

  each : (xs : List ℕ) → ((o : ℕ) → In o xs → Live s (Node.AnObject o)) → Every (LiveObject s) xs
  each xs h = Every-from (LiveObject s) xs (λ o i. inl (h o i))

  object-given : (p : ℕ) (x : Object) → Entry s.objects p x → p < s.last_object + 1
  object-given p x e = Entry-below (s.last_object + 1) s.objects p x n.objects_below e

  pub goroutine-given : (g : ℕ) (r : GoroutineView) → Entry s.goroutines g r → g < s.next_goroutine
  goroutine-given g r e = Entry-below s.next_goroutine s.goroutines g r n.goroutines_below e

  waited-given : (g : ℕ) (r : GoroutineView) (o : ℕ) → Entry s.goroutines g r → In o (waited (waits_of r.mode))
      → o ≤ s.last_object
  waited-given g r o e w =
      let a : UpTo s.last_object (goroutine_refs r) =
      Entry-Every (λ h q. UpTo s.last_object (goroutine_refs q)) s.goroutines n.in_goroutines g r e in
      waits-object (λ p. p ≤ s.last_object) (waits_of r.mode) o (goroutine-waits (λ p. p ≤ s.last_object) r a) w

  -- the live set, with all numbers that are not given yet, is closed
  pub closed-live : Closed s (LiveObject s) (LiveGoroutine s)
  closed-live = record {
    globals = each (refs s.globals) (λ o h. root (Node.AnObject o) (LiveRoot.Global o h));
    queue = each (queue_refs s.queue) (λ o h. root (Node.AnObject o) (LiveRoot.InQueue o h));
    finalised = λ p f x i e. each (object_refs x)
        (λ o h. root (Node.AnObject o) (LiveRoot.InFinalised o p x (In-keys s.finalisers p f i) e h));
    objects = λ p x i e. elim i [
      | inl a ↦ each (object_refs x) (λ o h. next (Node.AnObject p) (Node.AnObject o) a (LiveStep.InObject p o x e h))
      | inr a ↦ absurd (let b = object-given p x e in omega arith)
    ];
    goroutines = λ g r i e. elim i [
      | inl a ↦ each (goroutine_refs r) (λ o h. next (Node.AGoroutine g) (Node.AnObject o) a
          (LiveStep.InGoroutine g o r e h))
      | inr a ↦ absurd (let b = goroutine-given g r e in omega arith)
    ];
    running = λ g r e t. inl (root (Node.AGoroutine g) (LiveRoot.Running g r e t));
    awake = λ g r o e w i. elim i [
      | inl a ↦ inl (next (Node.AnObject o) (Node.AGoroutine g) a (LiveStep.Awakened o g r e w))
      | inr a ↦ absurd (let b = waited-given g r o e w in omega arith)
    ];
    zero_in = inl (root (Node.AGoroutine 0) LiveRoot.FinaliserGoroutine);
    new_objects = λ o h. inr h;
    new_goroutines = λ g h. inr h;
  }

pub dead_still : DeadAreStill
dead_still code s g n d = (
  d.0,
  d.1,
  λ events. (after-run code (LiveGoroutine s) events (LiveObject s) s (closed-live s n)).goroutines.there g d.0
      (λ i. elim i [ inl a ↦ d.3 a | inr a ↦ absurd (let b = goroutine-given s n g d.0 d.1 in omega arith) ])
      d.1,
)
