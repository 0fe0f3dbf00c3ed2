-- A state in memory whose references are all to objects that are there is numbered.
-- For: `IsWhole` (golf_model/specs/Presence.antt), `Numbered` (golf_model/specs/Futures.antt) and `State::heap`
-- By: induction over the entries of the map of objects
use Rattle.std.proofs.Common.{ℕ, ◌+◌, ◌<◌, ◌≤◌, List, [], ◌∷◌, inl, inr, refl, arith}
use Rattle.golf_theory.specs.Maps.{Entry, keys, IsRising, AllBelow}
use Rattle.golf_theory.specs.Membership.{In, Every}
use Rattle.golf_theory.proofs.Lists.{Every-weaker}
use Rattle.golf_theory.proofs.MapOrder.{Rises-less}
use Rattle.golf_model.specs.Values.{refs}
use Rattle.golf_model.specs.State.{State}
use Rattle.golf_model.specs.Refs.{object_refs, goroutine_refs, queue_refs}
use Rattle.golf_model.specs.Presence.{Present, IsWhole}
use Rattle.golf_model.specs.Futures.{UpTo, Numbered}
use Rattle.golf_heap.specs.Objects.{IsNumbered}

below-in : {X : Type 0} (n o : ℕ) (es : List (ℕ × X)) → AllBelow n es → In o (keys es) → o < n
below-in n o [] a h = absurd h
below-in n o (e ∷ es) a h = elim h [ inl i ↦ omega (arith, i, a.0) | inr j ↦ below-in n o es a.1 j ]

below-present : {X : Type 0} (n : ℕ) (es : List (ℕ × X)) (P : ℕ → Type 0) → ((o f : ℕ) → P o → o < n)
    → ((k : ℕ) (x : X) → Entry es k x → P k) → AllBelow n es
below-present n [] P l h = tt
below-present n (e ∷ es) P l h = (
  l e.0 0 (h e.0 e.1 (inl (refl, refl))),
  below-present n es P l (λ k x i. h k x (inr i)),
)

-- each entry's references
each-entry : {X : Type 0} (f : X → List ℕ) (n : ℕ) (P : ℕ → Type 0) (es : List (ℕ × X)) → ((o f : ℕ) → P o → o < n + 1)
    → ((k : ℕ) (x : X) → Entry es k x → Every P (f x)) → Every (λ e. UpTo n (f e.1)) es
each-entry f n P [] l h = tt
each-entry f n P (e ∷ es) l h = (
  Every-weaker P (λ o. o ≤ n) (λ o p. let m = l o 0 p in omega (arith, m)) (f e.1) (h e.0 e.1 (inl (refl, refl))),
  each-entry f n P es l (λ k x i. h k x (inr i)),
)

pub numbered : (s : State) → IsNumbered (record { objects = s.objects; last = s.last_object }) → IsRising s.finalisers
    → IsRising s.goroutines → AllBelow s.next_goroutine s.goroutines → IsWhole s → Numbered s
numbered s heap finalisers goroutines below whole = record {
  objects_rise = Rises-less 0 1 s.objects (omega arith) heap.rises;
  objects_below = heap.within;
  finalisers_rise = finalisers;
  finalisers_below = below-present (s.last_object + 1) s.finalisers (Present s) near whole.finalised;
  goroutines_rise = goroutines;
  goroutines_below = below;
  globals = all (refs s.globals) whole.globals;
  queue = all (queue_refs s.queue) whole.queue;
  in_objects = each-entry object_refs s.last_object (Present s) s.objects near whole.objects;
  in_goroutines = each-entry goroutine_refs s.last_object (Present s) s.goroutines near whole.goroutines;
}
  where
    near : (o f : ℕ) → Present s o → o < s.last_object + 1
    near o f h = below-in (s.last_object + 1) o s.objects heap.within h

    all : (os : List ℕ) → Every (Present s) os → UpTo s.last_object os
    all os h = Every-weaker (Present s) (λ o. o ≤ s.last_object) (λ o p. let m = near o 0 p in omega (arith, m)) os h
