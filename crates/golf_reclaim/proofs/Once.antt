-- No goroutine stands twice among the dead of a state.
-- For: `collect`, src/collection.rt; `CanNote`, specs/RunBook.antt
-- By: induction over the list, and over the map of goroutines, whose keys rise
use Rattle.std.proofs.Common.{◌≡◌, ℕ, suc, ◌<◌, ◌≤◌, Bool, List, [], ◌∷◌, filter, inl, inr, arith}
use Rattle.std.proofs.lemmas.Bool.{cases_eq, cases_Bool}
use Rattle.golf_theory.specs.Counts.{times}
use Rattle.golf_theory.specs.Maps.{keys_where, Rises}
use Rattle.golf_theory.proofs.Times.{times-cons_same, times-cons_other}
use Rattle.golf_model.specs.Futures.{Numbered}
use Rattle.golf_model.specs.LiveSet.{dead, is_dead, live_list}
use Rattle.golf_model.specs.State.{State}

-- one more before a list
cons-more : (n x : ℕ) (xs : List ℕ) → times n xs ≤ times n (x ∷ xs)
cons-more n x xs = elim (cases_eq x n) [
  | inl e ↦ rw e (omega (arith, times-cons_same n xs))
  | inr apart ↦ omega (arith, times-cons_other n x xs apart)
]

cons-alike : (n x : ℕ) (xs ys : List ℕ) → times n xs ≤ times n ys → times n (x ∷ xs) ≤ times n (x ∷ ys)
cons-alike n x xs ys l = elim (cases_eq x n) [
  | inl e ↦ rw e (omega (arith, l, times-cons_same n xs, times-cons_same n ys))
  | inr apart ↦ omega (arith, l, times-cons_other n x xs apart, times-cons_other n x ys apart)
]

fewer : (p : ℕ → Bool) (n : ℕ) (xs : List ℕ) → times n (filter p xs) ≤ times n xs
fewer p n [] = omega arith
fewer p n (x ∷ xs) = let rest = fewer p n xs in
    elim (cases_Bool (p x)) [
      | inl t ↦ rw t (cons-alike n x (filter p xs) xs rest)
      | inr f ↦ rw f (omega (arith, rest, cons-more n x xs))
    ]

-- a number that stands at most once does so among those that pass
pub filter-once : (p : ℕ → Bool) (n : ℕ) (xs : List ℕ) → times n xs ≤ 1 → times n (filter p xs) ≤ 1
filter-once p n xs l = omega (arith, l, fewer p n xs)

module _ {X : Type 0} (p : ℕ → X → Bool) where
  below : (k n : ℕ) (es : List (ℕ × X)) → Rises k es → n < k → times n (keys_where p es) ≡ 0
  below k n [] r l = omega arith
  below k n (e ∷ es) r l = let rest = below (suc e.0) n es r.1 (omega (arith, r.0, l)) in
      elim (cases_Bool (p e.0 e.1)) [
        | inl t ↦ rw (t, times-cons_other n e.0 (keys_where p es) (λ q. omega (arith, q, r.0, l))) rest
        | inr f ↦ rw f rest
      ]

  rising-once : (k n : ℕ) (es : List (ℕ × X)) → Rises k es → times n (keys_where p es) ≤ 1
  rising-once k n [] r = omega arith
  rising-once k n (e ∷ es) r = let rest = rising-once (suc e.0) n es r.1 in
      elim (cases_Bool (p e.0 e.1)) [
        | inl t ↦ rw t (elim (cases_eq e.0 n) [
          | inl q ↦ rw q (omega (
            arith,
            times-cons_same n (keys_where p es),
            below (suc e.0) n es r.1 (omega (arith, q)),
          ))
          | inr apart ↦ omega (arith, rest, times-cons_other n e.0 (keys_where p es) apart)
        ])
        | inr f ↦ rw f rest
      ]

pub dead-once : (s : State) (n : ℕ) → Numbered s → times n (dead s) ≤ 1
dead-once s n numbered = rising-once (is_dead (live_list s)) 0 n s.goroutines numbered.goroutines_rise
