-- Waits that are found, and the first waiter.
-- For: `wait_for`, `first`, `waiters`, golf_model/specs/Waiters.antt
-- By: induction over the list of waits and over the list of goroutines
use Rattle.std.proofs.Common.{◌≡◌, ℕ, true, false, cond, List, [], ◌∷◌, Option, Some, None, ◌==◌, ◌⊎◌, ◌&&◌, inl, inr}
use Rattle.std.proofs.Common.{refl, sym, ap, subst, nat_lt, option_map}
use Rattle.std.proofs.lemmas.Bool.{eqb-true, and_parts}
use Rattle.golf_theory.specs.Membership.{In}
use Rattle.golf_theory.specs.Maps.{Entry}
use Rattle.golf_data.specs.declared.goroutine.Side.{Side}
use Rattle.golf_data.specs.declared.goroutine.Wait.{Wait}
use Rattle.golf_model.specs.Views.{GoroutineView}
use Rattle.golf_model.specs.Waiters.{Waiter, waits_of, wait_for, wait_on, waiter_of, waiter_ticket, earlier, first}
use Rattle.golf_model.specs.Waiters.{by_ticket, enter, waiters, same_side}
use Rattle.golf_model.specs.Refs.{waited}

-- a wait that is found stands in the list, and its object is the one that was looked for
pub wait_for-in : (o : ℕ) (side : Side) (ws : List Wait) (w : Wait) → wait_for o side ws ≡ Some w → In w ws
wait_for-in o side [] w h = cc
wait_for-in o side (v ∷ vs) w h =
    elim ((v.object.0 == o) && same_side v.side side) as (λ b. cond b (Some v) (wait_for o side vs) ≡ Some w
    → In w (v ∷ vs)) [
      | true ↦ λ i. inl (cc)
      | false ↦ λ i. inr (wait_for-in o side vs w i)
    ] h

pub wait_for-waited : (o : ℕ) (side : Side) (ws : List Wait) (w : Wait) → wait_for o side ws ≡ Some w → In o (waited ws)
wait_for-waited o side [] w h = cc
wait_for-waited o side (v ∷ vs) w h =
    elim ((v.object.0 == o) && same_side v.side side) as (λ b. ((v.object.0 == o) && same_side v.side side) ≡ b
    → cond b (Some v) (wait_for o side vs) ≡ Some w → In o (waited (v ∷ vs))) [
      | true ↦ λ t i. inl (sym (eqb-true v.object.0 o (and_parts (v.object.0 == o) _ t).0))
      | false ↦ λ t i. inr (wait_for-waited o side vs w i)
    ] refl h

pub wait_on-in : (o : ℕ) (ws : List Wait) (w : Wait) → wait_on o ws ≡ Some w → In w ws
wait_on-in o [] w h = cc
wait_on-in o (v ∷ vs) w h =
    elim (v.object.0 == o) as (λ b. cond b (Some v) (wait_on o vs) ≡ Some w → In w (v ∷ vs)) [
      | true ↦ λ i. inl (cc)
      | false ↦ λ i. inr (wait_on-in o vs w i)
    ] h

pub wait_on-waited : (o : ℕ) (ws : List Wait) (w : Wait) → wait_on o ws ≡ Some w → In o (waited ws)
wait_on-waited o [] w h = cc
wait_on-waited o (v ∷ vs) w h =
    elim (v.object.0 == o) as (λ b. (v.object.0 == o) ≡ b → cond b (Some v) (wait_on o vs) ≡ Some w
    → In o (waited (v ∷ vs))) [
      | true ↦ λ t i. inl (sym (eqb-true v.object.0 o t))
      | false ↦ λ t i. inr (wait_on-waited o vs w i)
    ] refl h

-- a waiter stands among the goroutines and waits on the object with its wait
pub record IsWaiter (o : ℕ) (side : Side) (gs : List (ℕ × GoroutineView)) (w : Waiter) : Type 0 where
  pub entry : Entry gs w.number w.goroutine
  pub found : wait_for o side (waits_of w.goroutine.mode) ≡ Some w.wait

module _ (o : ℕ) (side : Side) where
  as_waiter : ℕ × GoroutineView → Wait → Waiter
  as_waiter e u = record { number = e.0; goroutine = e.1; wait = u }

  waiter_from : (e : ℕ × GoroutineView) (gs : List (ℕ × GoroutineView)) (w : Waiter) (m : Option Wait)
      → wait_for o side (waits_of e.1.mode) ≡ m → option_map (as_waiter e) m ≡ Some w → IsWaiter o side (e ∷ gs) w
  unfolding as_waiter
  waiter_from e gs w None h i = cc
  waiter_from e gs w (Some v) h i = let same : as_waiter e v ≡ w =
      cc in subst (λ (z : Waiter). IsWaiter o side (e ∷ gs) z) same (record { entry = inl (refl, refl); found = h })

  pub waiter_of-is : (e : ℕ × GoroutineView) (gs : List (ℕ × GoroutineView)) (w : Waiter) → waiter_of o side e ≡ Some w
      → IsWaiter o side (e ∷ gs) w
  unfolding as_waiter
  waiter_of-is e gs w h = waiter_from e gs w (wait_for o side (waits_of e.1.mode)) refl h

  more : (e : ℕ × GoroutineView) (gs : List (ℕ × GoroutineView)) (w : Waiter) → IsWaiter o side gs w
      → IsWaiter o side (e ∷ gs) w
  more e gs w h = record { entry = inr h.entry; found = h.found }

  pub earlier-cases : (m n : Option Waiter) (w : Waiter) → earlier m n ≡ Some w → (m ≡ Some w) ⊎ (n ≡ Some w)
  earlier-cases None n w h = inr h
  earlier-cases (Some u) None w h = inl h
  earlier-cases (Some u) (Some v) w h =
      elim (nat_lt (waiter_ticket v) (waiter_ticket u)) as (λ b. cond b (Some v) (Some u) ≡ Some w → (Some u ≡ Some w)
      ⊎ (Some v ≡ Some w)) [
        | true ↦ λ i. inr i
        | false ↦ λ i. inl i
      ] h

  pub first-is : (gs : List (ℕ × GoroutineView)) (w : Waiter) → first o side gs ≡ Some w → IsWaiter o side gs w
  first-is [] w h = cc
  first-is (e ∷ gs) w h = elim (earlier-cases (waiter_of o side e) (first o side gs) w h) [
    | inl a ↦ waiter_of-is e gs w a
    | inr a ↦ more e gs w (first-is gs w a)
  ]

  In-by_ticket : (w v : Waiter) (ws : List Waiter) → In w (by_ticket v ws) → (w ≡ v) ⊎ In w ws
  In-by_ticket w v [] h = h
  In-by_ticket w v (u ∷ us) h =
      elim (nat_lt (waiter_ticket u) (waiter_ticket v)) as (λ b. In w (cond b (u ∷ by_ticket v us) (v ∷ u ∷ us))
      → (w ≡ v) ⊎ In w (u ∷ us)) [
        | true ↦ λ i. elim i [
          | inl a ↦ inr (inl a)
          | inr a ↦
              elim (In-by_ticket w v us a) [ inl b ↦ inl b | inr b ↦ inr (inr b) ]
        ]
        | false ↦ λ i. i
      ] h

  In-enter : (w : Waiter) (m : Option Waiter) (ws : List Waiter) → In w (enter m ws) → (m ≡ Some w) ⊎ In w ws
  In-enter w None ws h = inr h
  In-enter w (Some v) ws h = elim (In-by_ticket w v ws h) [ inl a ↦ inl (ap Some (sym a)) | inr a ↦ inr a ]

  pub waiters-are : (gs : List (ℕ × GoroutineView)) (w : Waiter) → In w (waiters o side gs) → IsWaiter o side gs w
  waiters-are [] w h = absurd h
  waiters-are (e ∷ gs) w h = elim (In-enter w (waiter_of o side e) (waiters o side gs) h) [
    | inl a ↦ waiter_of-is e gs w a
    | inr a ↦ more e gs w (waiters-are gs w a)
  ]
