-- Sums of weights over a list, and over it after a change of one place.
-- For: `sum_by`, std/specs/Prelude.antt
-- By: induction over the list that is summed
use Rattle.std.proofs.Common.{◌≡◌, ℕ, zero, suc, ◌+◌, ◌<◌, ◌≤◌, List, [], ◌∷◌, length, get_or, set, refl, sym, ap}
use Rattle.std.proofs.Common.{arith}
use Rattle.std.specs.Prelude.{sum_by}
use Rattle.std.proofs.lemmas.List.Sums.{sum_by-cons}
use mathlib.Core.Option.{some, some-injective, some-ne-none}
use lib.ListN.{get_elem?}

pub total_set : {V : Type 0} (f : V → ℕ) (views : List V) (id : ℕ) (v w : V) → get_elem? views id ≡ some v
    → sum_by f (set views id w) + f v ≡ sum_by f views + f w
total_set f [] id v w e = absurd (some-ne-none v (sym e))
total_set f (x ∷ xs) zero v w e = omega (arith, sum_by-cons f w xs, sum_by-cons f x xs, ap f (some-injective x v e))
total_set f (x ∷ xs) (suc k) v w e = omega
    (arith, sum_by-cons f x (set xs k w), sum_by-cons f x xs, total_set f xs k v w e)

-- one is at most the whole
pub total_at : {V : Type 0} (f : V → ℕ) (views : List V) (id : ℕ) (v : V) → get_elem? views id ≡ some v
    → f v ≤ sum_by f views
total_at f [] id v e = absurd (some-ne-none v (sym e))
total_at f (x ∷ xs) zero v e = omega (arith, sum_by-cons f x xs, ap f (some-injective x v e))
total_at f (x ∷ xs) (suc k) v e = omega (arith, sum_by-cons f x xs, total_at f xs k v e)

-- if each has nothing, the whole is nothing
pub total_none : {V : Type 0} (g : V → ℕ) (us : List V) → ((k : ℕ) (u : V) → get_elem? us k ≡ some u → g u ≡ 0)
    → sum_by g us ≡ 0
total_none g [] h = refl
total_none g (u ∷ us) h = omega (arith, sum_by-cons g u us, h zero u refl, total_none g us (λ k y at. h (suc k) y at))

-- if one has the whole, the others have nothing
pub total_alone : {V : Type 0} (f g : V → ℕ) (views : List V) (id : ℕ) (v : V) → get_elem? views id ≡ some v
    → ((k : ℕ) (u : V) → get_elem? views k ≡ some u → f u ≡ 0 → g u ≡ 0) → sum_by f views ≡ f v → sum_by g views ≡ g v
total_alone f g [] id v e idle all = absurd (some-ne-none v (sym e))
total_alone f g (x ∷ xs) zero v e idle all =
    omega (
      arith,
      sum_by-cons g x xs,
      ap g (some-injective x v e),
      total_none g xs (λ k u at. idle (suc k) u at
          (omega (arith, total_at f xs k u at, sum_by-cons f x xs, ap f (some-injective x v e)))),
    )
total_alone f g (x ∷ xs) (suc k) v e idle all =
    omega (
      arith,
      sum_by-cons g x xs,
      sum_by-cons f x xs,
      total_at f xs k v e,
      idle zero x refl (omega (arith, sum_by-cons f x xs, total_at f xs k v e)),
      total_alone f g xs k v e (λ j u at. idle (suc j) u at) (omega (arith, sum_by-cons f x xs, total_at f xs k v e)),
    )

-- the weight 1 counts
pub total_length : {V : Type 0} (vs : List V) → sum_by (λ v. 1) vs ≡ length vs
total_length [] = refl
total_length {V = V} (v ∷ vs) = omega (arith, sum_by-cons (λ (w : V). 1) v vs, total_length vs)

-- what is at a place
pub get_or_of : {A : Type 0} (l : List A) (i : ℕ) (a d : A) → get_elem? l i ≡ some a → get_or l i d ≡ a
get_or_of [] i a d e = absurd (some-ne-none a (sym e))
get_or_of (x ∷ xs) zero a d e = some-injective x a e
get_or_of (x ∷ xs) (suc i) a d e = get_or_of xs i a d e

pub at_index : {A : Type 0} (l : List A) (i : ℕ) (a : A) → i < length l → a ≡ get_or l i a → get_elem? l i ≡ some a
at_index [] i a h e = absurd (omega arith)
at_index (x ∷ xs) zero a h e = ap some (sym e)
at_index (x ∷ xs) (suc i) a h e = at_index xs i a (omega arith) e
