-- How often a number stands in a list, and that no list is longer than the sum of such counts.
-- For: `times`, specs/Counts.antt; `counting_laws`, src/lib.rt
-- By: induction over the list, and over the list of counts
use Rattle.std.proofs.Common.{◌≡◌, ℕ, zero, suc, ◌+◌, ◌-◌, ◌<◌, ◌≤◌, List, [], ◌∷◌, ◌++◌, length, get_or, set, Bool}
use Rattle.std.proofs.Common.{cond, eqb, eq-eqb, ne_eqb, refl, sym, ap, subst, arith, inl, inr}
use Rattle.std.specs.Prelude.{sum}
use Rattle.std.proofs.lemmas.Bool.{cases_lt, cases_eq}
use Rattle.std.proofs.lemmas.List.{get_or-set_same, get_or-set_other, get_or_past}
use Rattle.std.proofs.lemmas.List.Sums.{sum_by-cons, sum_by-append, sum_by_push, sum_by-set}
use Rattle.golf_theory.specs.Membership.{In}
use Rattle.golf_theory.specs.Counts.{times}

-- the weight of one number
abbrev one : ℕ → ℕ → ℕ
one x y = cond (eqb y x) 1 0

one_same : (x y : ℕ) → y ≡ x → one x y ≡ 1
one_same x y e = ap (λ (b : Bool). let n : ℕ = cond b 1 0 in n) (eq-eqb y x e)

one_other : (x y : ℕ) → (y ≡ x → ⊥) → one x y ≡ 0
one_other x y n = ap (λ (b : Bool). let m : ℕ = cond b 1 0 in m) (ne_eqb y x n)

pub times-cons_same : (x : ℕ) (xs : List ℕ) → times x (x ∷ xs) ≡ 1 + times x xs
times-cons_same x xs = omega (arith, sum_by-cons (λ (z : ℕ). cond (eqb z x) 1 0) x xs, one_same x x refl)

pub times-cons_other : (x y : ℕ) (xs : List ℕ) → (y ≡ x → ⊥) → times x (y ∷ xs) ≡ times x xs
times-cons_other x y xs n = omega (arith, sum_by-cons (λ (z : ℕ). cond (eqb z x) 1 0) y xs, one_other x y n)

pub times-push : (x : ℕ) (xs : List ℕ) (y : ℕ) → times x (xs ++ y ∷ []) ≡ times x xs + cond (eqb y x) 1 0
times-push x xs y = sum_by_push (λ (z : ℕ). cond (eqb z x) 1 0) xs y

pub times-append : (x : ℕ) (xs ys : List ℕ) → times x (xs ++ ys) ≡ times x xs + times x ys
times-append x xs ys = sum_by-append (λ (z : ℕ). cond (eqb z x) 1 0) xs ys

-- a member stands at least once, and what stands is a member
pub times-In : (x : ℕ) (xs : List ℕ) → In x xs → 1 ≤ times x xs
times-In x [] h = absurd h
times-In x (y ∷ ys) (inl e) = omega (arith, sum_by-cons (λ (z : ℕ). cond (eqb z x) 1 0) y ys, one_same x y (sym e))
times-In x (y ∷ ys) (inr h) = omega (arith, sum_by-cons (λ (z : ℕ). cond (eqb z x) 1 0) y ys, times-In x ys h)

pub In-times : (x : ℕ) (xs : List ℕ) → 1 ≤ times x xs → In x xs
In-times x [] h = absurd (omega arith)
In-times x (y ∷ ys) h = elim (cases_eq y x) [
  | inl e ↦ inl (sym e)
  | inr n ↦ inr (In-times x ys (omega (arith, times-cons_other x y ys n)))
]

pub times-none : (x : ℕ) (xs : List ℕ) → (In x xs → ⊥) → times x xs ≡ 0
times-none x xs n = elim (cases_lt 0 (times x xs)) [
  | inl l ↦ absurd (n (In-times x xs (omega arith)))
  | inr l ↦
      omega arith
]

pub none-times : (x : ℕ) (xs : List ℕ) → times x xs ≡ 0 → In x xs → ⊥
none-times x xs z h = omega (arith, times-In x xs h)

pub times-length : (x : ℕ) (xs : List ℕ) → times x xs ≤ length xs
times-length x [] = omega arith
times-length x (y ∷ ys) = elim (cases_eq y x) [
  | inl e ↦ omega (arith, sum_by-cons (λ (z : ℕ). cond (eqb z x) 1 0) y ys, one_same x y e, times-length x ys)
  | inr n ↦ omega (arith, times-cons_other x y ys n, times-length x ys)
]

-- a list in which each number stands at most as often as its word says is no longer than the words add up to
pub length-counted : (xs words : List ℕ) → ((x : ℕ) → times x xs ≤ get_or words x 0) → length xs ≤ sum words
length-counted [] words h = omega arith
length-counted (x ∷ xs) words h =
    let here : times x (x ∷ xs) ≡ 1 + times x xs = times-cons_same x xs in
    let n : ℕ = get_or words x 0 in
    let some_one : 1 ≤ n = omega (arith, h x, here) in
    let low : x < length words = elim (cases_lt x (length words)) [
      | inl l ↦ l
      | inr past ↦ absurd
          (omega (arith, get_or_past words x 0 past))
    ] in
    let less = sum_by-set (λ (y : ℕ). y) words x (n - 1) 0 low in
    let rest = length-counted xs (set words x (n - 1)) (λ y. elim (cases_eq y x) [
      | inl same ↦ subst (λ (z : ℕ). times z xs ≤ get_or (set words x (n - 1)) z 0) (sym same)
          (omega (arith, get_or-set_same words x (n - 1) 0 low, h x, here))
      | inr apart ↦ omega (
        arith,
        get_or-set_other words x y (n - 1) 0 apart,
        h y,
        times-cons_other y x xs (λ e. apart (sym e)),
      )
    ]) in
    omega (arith, rest, less)

-- bits add up to at most their number
pub sum-bits : (words : List ℕ) → ((x : ℕ) → get_or words x 0 ≤ 1) → sum words ≤ length words
sum-bits [] h = omega arith
sum-bits (w ∷ ws) h = omega (arith, sum_by-cons (λ (y : ℕ). y) w ws, h zero, sum-bits ws (λ x. h (suc x)))
