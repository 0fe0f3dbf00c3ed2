-- Waiters by rising ticket, and the first of them.
-- For: `first`, `waiters` (golf_model/specs/Waiters.antt) and `waiters_law` (src/laws.rt)
-- By: induction over the list of goroutines, and over the list of waiters
use Rattle.std.proofs.Common.{◌≡◌, ℕ, ◌≤◌, true, false, cond, List, [], ◌∷◌, Option, Some, None, ◌⊎◌, inl, inr, refl}
use Rattle.std.proofs.Common.{ap, ◌∙◌, subst, sym, arith}
use Rattle.std.specs.Prelude.{nat_lt}
use Rattle.std.proofs.lemmas.Bool.{ltb-true, ltb-false}
use Rattle.golf_theory.specs.Membership.{In, Every}
use Rattle.golf_data.specs.declared.goroutine.Side.{Side}
use Rattle.golf_model.specs.Views.{GoroutineView}
use Rattle.golf_model.specs.Waiters.{Waiter, waiter_ticket, waiter_of, earlier, first, by_ticket, enter, waiters}
use Rattle.golf_model.specs.Laws.{head, TicketsRise, IsWaiterOf}

-- ---- the first is the head

by_ticket-head : (w : Waiter) (ws : List Waiter) → head (by_ticket w ws) ≡ earlier (Some w) (head ws)
by_ticket-head w [] = refl
by_ticket-head w (v ∷ vs) =
    elim (nat_lt (waiter_ticket v) (waiter_ticket w)) as (λ b. head (cond b (v ∷ by_ticket w vs) (w ∷ v ∷ vs)) ≡ cond b
    (Some v) (Some w)) [ true ↦ refl | false ↦ refl ]

enter-head : (m : Option Waiter) (ws : List Waiter) → head (enter m ws) ≡ earlier m (head ws)
enter-head None ws = refl
enter-head (Some w) ws = by_ticket-head w ws

pub first-head : (o : ℕ) (side : Side) (gs : List (ℕ × GoroutineView)) → first o side gs ≡ head (waiters o side gs)
first-head o side [] = refl
first-head o side (e ∷ es) = ap (earlier (waiter_of o side e)) (first-head o side es)
    ∙ sym (enter-head (waiter_of o side e) (waiters o side es))

-- ---- who is among the waiters

by_ticket-in : (w : Waiter) (ws : List Waiter) (v : Waiter) → In v (by_ticket w ws) → (v ≡ w) ⊎ In v ws
by_ticket-in w [] v h = h
by_ticket-in w (x ∷ xs) v h =
    elim (nat_lt (waiter_ticket x) (waiter_ticket w)) as (λ b. In v (cond b (x ∷ by_ticket w xs) (w ∷ x ∷ xs)) → (v ≡ w)
    ⊎ In v (x ∷ xs)) [
      | true ↦ λ i. elim i [
        | inl e ↦ inr (inl e)
        | inr a ↦
            elim (by_ticket-in w xs v a) [ inl e ↦ inl e | inr k ↦ inr (inr k) ]
      ]
      | false ↦ λ i. i
    ] h

by_ticket-new : (w : Waiter) (ws : List Waiter) → In w (by_ticket w ws)
by_ticket-new w [] = inl refl
by_ticket-new w (x ∷ xs) =
    elim (nat_lt (waiter_ticket x) (waiter_ticket w)) as (λ b. In w (cond b (x ∷ by_ticket w xs) (w ∷ x ∷ xs))) [
      | true ↦
          inr (by_ticket-new w xs)
      | false ↦ inl refl
    ]

by_ticket-old : (w : Waiter) (ws : List Waiter) (v : Waiter) → In v ws → In v (by_ticket w ws)
by_ticket-old w [] v h = absurd h
by_ticket-old w (x ∷ xs) v h =
    elim (nat_lt (waiter_ticket x) (waiter_ticket w)) as (λ b. In v (cond b (x ∷ by_ticket w xs) (w ∷ x ∷ xs))) [
      | true ↦ elim h [ inl e ↦ inl e | inr a ↦ inr (by_ticket-old w xs v a) ]
      | false ↦ inr h
    ]

enter-in : (o : ℕ) (side : Side) (e : ℕ × GoroutineView) (es : List (ℕ × GoroutineView)) (ws : List Waiter)
    (m : Option Waiter) → waiter_of o side e ≡ m → (v : Waiter)
    → (In v ws → IsWaiterOf o side es v) → In v (enter m ws) → IsWaiterOf o side (e ∷ es) v
enter-in o side e es ws None q v ih h = let r = ih h in (r.0, inr r.1, r.2)
enter-in o side e es ws (Some w) q v ih h = elim (by_ticket-in w ws v h) [
  | inl k ↦ (e, inl (refl, refl), q ∙ ap Some (sym k))
  | inr a ↦ let r = ih a in (r.0, inr r.1, r.2)
]

pub waiters-sound : (o : ℕ) (side : Side) (gs : List (ℕ × GoroutineView)) (v : Waiter) → In v (waiters o side gs)
    → IsWaiterOf o side gs v
waiters-sound o side [] v h = absurd h
waiters-sound o side (e ∷ es) v h = enter-in o side e es (waiters o side es) (waiter_of o side e) refl v
    (waiters-sound o side es v) h

enter-new : (m : Option Waiter) (ws : List Waiter) (v : Waiter) → m ≡ Some v → In v (enter m ws)
enter-new m ws v q = subst (λ k. In v (enter k ws)) (sym q) (by_ticket-new v ws)

enter-old : (m : Option Waiter) (ws : List Waiter) (v : Waiter) → In v ws → In v (enter m ws)
enter-old None ws v h = h
enter-old (Some w) ws v h = by_ticket-old w ws v h

same_entry : (o : ℕ) (side : Side) (g h : ℕ) (r q : GoroutineView) → g ≡ h → r ≡ q
    → waiter_of o side (g, r) ≡ waiter_of o side (h, q)
same_entry o side g h r q e f = ap (λ n. waiter_of o side (n, r)) e ∙ ap (λ x. waiter_of o side (h, x)) f

pub waiters-complete : (o : ℕ) (side : Side) (gs : List (ℕ × GoroutineView)) (v : Waiter) → IsWaiterOf o side gs v
    → In v (waiters o side gs)
waiters-complete o side [] v (f, h, q) = absurd h
waiters-complete o side (e ∷ es) v (f, inl k, q) =
    enter-new (waiter_of o side e) (waiters o side es) v (sym (same_entry o side f.0 e.0 f.1 e.1 k.0 k.1) ∙ q)
waiters-complete o side (e ∷ es) v (f, inr k, q) =
    enter-old (waiter_of o side e) (waiters o side es) v (waiters-complete o side es v (f, k, q))

-- ---- tickets rise

Every-in : {X : Type 0} (P : X → Type 0) (xs : List X) → ((x : X) → In x xs → P x) → Every P xs
Every-in P [] h = tt
Every-in P (x ∷ xs) h = (h x (inl refl), Every-in P xs (λ y i. h y (inr i)))

Every-at : {X : Type 0} (P : X → Type 0) (xs : List X) → Every P xs → (x : X) → In x xs → P x
Every-at P [] a x h = absurd h
Every-at P (y ∷ ys) a x (inl e) = subst P (sym e) a.0
Every-at P (y ∷ ys) a x (inr h) = Every-at P ys a.1 x h

abbrev NotBefore : Waiter → Waiter → Type 0
NotBefore w v = waiter_ticket w ≤ waiter_ticket v

by_ticket-rise : (w : Waiter) (ws : List Waiter) → TicketsRise ws → TicketsRise (by_ticket w ws)
by_ticket-rise w [] s = (tt, tt)
by_ticket-rise w (x ∷ xs) s =
    elim (nat_lt (waiter_ticket x) (waiter_ticket w)) as (λ b. nat_lt (waiter_ticket x) (waiter_ticket w) ≡ b
    → TicketsRise (cond b (x ∷ by_ticket w xs) (w ∷ x ∷ xs))) [
      | true ↦ λ t. let l = ltb-true (waiter_ticket x) (waiter_ticket w) t in (
        Every-in (NotBefore x) (by_ticket w xs)
            (λ v i. elim (by_ticket-in w xs v i) [
              | inl e ↦ subst (NotBefore x) (sym e) (omega arith)
              | inr k ↦
                  Every-at (NotBefore x) xs s.0 v k
            ]),
        by_ticket-rise w xs s.1,
      )
      | false ↦ λ t. let l = ltb-false (waiter_ticket x) (waiter_ticket w) t in (
        (
          omega arith,
          Every-in (NotBefore w) xs
              (λ v i. let k : waiter_ticket x ≤ waiter_ticket v = Every-at (NotBefore x) xs s.0 v i in omega arith),
        ),
        s,
      )
    ] refl

enter-rise : (m : Option Waiter) (ws : List Waiter) → TicketsRise ws → TicketsRise (enter m ws)
enter-rise None ws s = s
enter-rise (Some w) ws s = by_ticket-rise w ws s

pub waiters-rise : (o : ℕ) (side : Side) (gs : List (ℕ × GoroutineView)) → TicketsRise (waiters o side gs)
waiters-rise o side [] = tt
waiters-rise o side (e ∷ es) = enter-rise (waiter_of o side e) (waiters o side es) (waiters-rise o side es)
