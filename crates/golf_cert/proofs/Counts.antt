-- Lists with the same numbers, each as often, are of one length; the computed places are each there once.
-- For: `OrderComputed` (golf_cert/specs/Laws.antt) and `least_is_computed` (src/laws.rt)
-- By: induction over the list of numbers
use Rattle.std.proofs.Common.{◌≡◌, ℕ, zero, suc, ◌+◌, ◌≤◌, inl, inr, Bool, true, false, cond, List, [], ◌∷◌, ◌++◌}
use Rattle.std.proofs.Common.{length, length-append, filter, sym, ap, subst, arith}
use Rattle.std.specs.List.{range_with_len}
use Rattle.std.proofs.lemmas.Bool.{cases_eq, cases_lt}
use Rattle.golf_theory.specs.Membership.{In}
use Rattle.golf_theory.specs.Counts.{times}
use Rattle.golf_theory.proofs.Times.{times-cons_same, times-cons_other, times-append, times-In, In-times, times-none}
use Rattle.golf_model.specs.declared.graph.GraphParts.{GraphParts}
use Rattle.golf_model.specs.Graph.{Least, is_justified_next, IsInRange}
use Rattle.golf_cert.specs.Steps.{place_count}
use Rattle.golf_cert.specs.ComputedLevels.{within, least_in_order}
use Rattle.golf_cert.specs.Laws.{OrderComputed}
use Rattle.golf_cert.specs.LevelWalk.{HasLevels}
use Rattle.golf_cert.specs.declared.walk.Walk.{Walk}
use Rattle.golf_cert.proofs.Computing.{within-sound, in_round}
use Rattle.golf_cert.proofs.Walks.{order_level}

-- ---- lengths

-- a list, around one of its members
around : (x : ℕ) (xs : List ℕ) → In x xs → (a : List ℕ) × (b : List ℕ) × (xs ≡ a ++ x ∷ b)
around x [] h = absurd h
around x (y ∷ ys) (inl e) = ([], ys, ap (λ (z : ℕ). z ∷ ys) (sym e))
around x (y ∷ ys) (inr h) = let r = around x ys h in (y ∷ r.0, r.1, ap (λ (zs : List ℕ). y ∷ zs) r.2)

one_less : (a b xs : List ℕ) (x y : ℕ) → times y (x ∷ xs) ≤ times y (a ++ x ∷ b) → times y xs ≤ times y (a ++ b)
one_less a b xs x y h = elim (cases_eq x y) [
  | inl same ↦
      let left = subst (λ (z : ℕ). times z (x ∷ xs) ≡ 1 + times z xs) same (times-cons_same x xs) in
      let right = subst (λ (z : ℕ). times z (x ∷ b) ≡ 1 + times z b) same (times-cons_same x b) in
      omega (arith, h, left, right, times-append y a (x ∷ b), times-append y a b)
  | inr apart ↦ omega (
    arith,
    h,
    times-cons_other y x xs apart,
    times-cons_other y x b apart,
    times-append y a (x ∷ b),
    times-append y a b,
  )
]

-- a list in which nothing stands more often is no longer
length-below : (xs ys : List ℕ) → ((y : ℕ) → times y xs ≤ times y ys) → length xs ≤ length ys
length-below [] ys h = omega arith
length-below (x ∷ xs) ys h =
    let r = around x ys (In-times x ys (omega (arith, h x, times-cons_same x xs))) in
    let a : List ℕ = r.0 in
    let b : List ℕ = r.1 in
    let fewer = length-below xs (a ++ b) (λ y. one_less a b xs x y
    (subst (λ (zs : List ℕ). times y (x ∷ xs) ≤ times y zs) r.2 (h y))) in
    omega (arith, fewer, length-append a b, length-append a (x ∷ b), ap length r.2)

pub length-same : (xs ys : List ℕ) → ((y : ℕ) → times y xs ≡ times y ys) → length xs ≡ length ys
length-same xs ys h = omega (
  arith,
  length-below xs ys (λ y. omega (arith, h y)),
  length-below ys xs (λ y. omega (arith, h y)),
)

-- ---- the computed places

filtered : (test : ℕ → Bool) (y : ℕ) (xs : List ℕ) → times y (filter test xs) ≤ times y xs
filtered test y [] = omega arith
filtered test y (x ∷ xs) =
    let rest = filtered test y xs in
    elim (test x) as (λ b. times y (cond b (x ∷ filter test xs) (filter test xs)) ≤ times y (x ∷ xs)) [
      | true ↦ elim (cases_eq x y) [
        | inl same ↦
            let left = subst (λ (z : ℕ). times z (x ∷ filter test xs) ≡ 1 + times z (filter test xs)) same
            (times-cons_same x (filter test xs)) in
            let right = subst (λ (z : ℕ). times z (x ∷ xs) ≡ 1 + times z xs) same (times-cons_same x xs) in
            omega (arith, rest, left, right)
        | inr apart ↦ omega (arith, rest, times-cons_other y x (filter test xs) apart, times-cons_other y x xs apart)
      ]
      | false ↦ elim (cases_eq x y) [
        | inl same ↦
            let right = subst (λ (z : ℕ). times z (x ∷ xs) ≡ 1 + times z xs) same (times-cons_same x xs) in
            omega (arith, rest, right)
        | inr apart ↦ omega (arith, rest, times-cons_other y x xs apart)
      ]
    ]

from_first : (a n p : ℕ) → In p (range_with_len a n) → a ≤ p
from_first a zero p h = absurd h
from_first a (suc n) p (inl e) = omega (arith, e)
from_first a (suc n) p (inr h) = omega (arith, from_first (a + 1) n p h)

range-once : (a n p : ℕ) → times p (range_with_len a n) ≤ 1
range-once a zero p = omega arith
range-once a (suc n) p =
    let rest : List ℕ = range_with_len (a + 1) n in
    elim (cases_eq a p) [
      | inl same ↦
          let left = subst (λ (z : ℕ). times z (a ∷ rest) ≡ 1 + times z rest) same (times-cons_same a rest) in
          let none = times-none p rest (λ h. omega (arith, from_first (a + 1) n p h, same)) in
          omega (arith, left, none)
      | inr apart ↦ omega (arith, times-cons_other p a rest apart, range-once (a + 1) n p)
    ]

within-once : (g : GraphParts) (n p : ℕ) → times p (within g n) ≤ 1
unfolding within
within-once g zero p = omega arith
within-once g (suc n) p = omega (
  arith,
  filtered (is_justified_next g (within g n)) p
      (range_with_len 0 (place_count g)),
  range-once 0 (place_count g) p,
)

pub least_computed : OrderComputed
unfolding least_in_order
least_computed g fit p = (
  (λ h. let w = within-sound g (place_count g) p h in (w.1.0, w.1.1), λ d. in_round g fit p d),
  within-once g (place_count g) p,
)

-- ---- a walk lists as many

listed : (g : GraphParts) (w : Walk) → HasLevels g w → (p : ℕ) → In p w.order → Least g p
listed g w levels p h = let l = levels.levels p (order_level g w levels p h) in (l.way.0, l.way.1)

once : (a b : ℕ) → a ≤ 1 → b ≤ 1 → (1 ≤ a → 1 ≤ b) → (1 ≤ b → 1 ≤ a) → a ≡ b
once a b one two up down = elim (cases_lt 0 a) [
  | inl some ↦ let there = up (omega (arith, some)) in omega (arith, some, one, two, there)
  | inr none ↦ elim (cases_lt 0 b) [
    | inl some ↦ let there = down (omega (arith, some)) in omega (arith, none, there)
    | inr both ↦ omega (arith, none, both)
  ]
]

order-once : (g : GraphParts) (w : Walk) → HasLevels g w → (p : ℕ) → times p w.order ≤ 1
order-once g w levels p = elim (cases_lt 0 (times p w.order)) [
  | inl some ↦ omega (arith, levels.once p (order_level g w levels p (In-times p w.order (omega (arith, some)))))
  | inr none ↦ omega (arith, none)
]

pub order_count : (g : GraphParts) (w : Walk) → IsInRange g → HasLevels g w → length w.order ≡ length (least_in_order g)
order_count g w fit levels = length-same w.order (least_in_order g) (λ p.
    let c = least_computed g fit p in
    once (times p w.order) (times p (least_in_order g)) (order-once g w levels p) c.1
    (λ h. times-In p (least_in_order g) (c.0.1 (listed g w levels p (In-times p w.order h))))
    (λ h. omega (arith, levels.once p (levels.least p (c.0.0 (In-times p (least_in_order g) h))))))
