-- Numbers that rise within bounds.
-- For: `RisesIn` (golf_state_goroutines/specs/RunBlocks.antt)
-- By: induction over the list of numbers
use Rattle.std.proofs.Common.{◌≡◌, ℕ, suc, ◌+◌, ◌<◌, ◌≤◌, Bool, true, false, cond, List, [], ◌∷◌, ◌++◌, length, filter}
use Rattle.std.proofs.Common.{nat_lt, refl, sym, arith}
use Rattle.std.proofs.lemmas.Bool.{ltb-true, ltb-false}
use Rattle.golf_theory.specs.Stored.{placed}
use Rattle.golf_state_goroutines.specs.RisingLists.{RisesFrom}
use Rattle.golf_state_goroutines.specs.RunBlocks.{RisesIn}
use Rattle.golf_state_goroutines.specs.Goroutines.{AllUnder, IsNone}

pub in-length : (lo hi : ℕ) (xs : List ℕ) → RisesIn lo hi xs → lo + length xs ≤ hi
in-length lo hi [] r = omega (arith, r)
in-length lo hi (x ∷ xs) r = let h = in-length (suc x) hi xs r.1 in omega (arith, r.0, h)

pub in-less : (j lo hi : ℕ) (xs : List ℕ) → j ≤ lo → RisesIn lo hi xs → RisesIn j hi xs
in-less j lo hi [] l r = omega (arith, l, r)
in-less j lo hi (x ∷ xs) l r = (omega (arith, l, r.0), r.1)

pub in-more : (lo hi top : ℕ) (xs : List ℕ) → hi ≤ top → RisesIn lo hi xs → RisesIn lo top xs
in-more lo hi top [] l r = omega (arith, l, r)
in-more lo hi top (x ∷ xs) l r = (r.0, in-more (suc x) hi top xs l r.1)

pub in-from : (j lo hi : ℕ) (xs : List ℕ) → j ≤ lo → RisesIn lo hi xs → RisesFrom j xs
in-from j lo hi [] l r = tt
in-from j lo hi (x ∷ xs) l r = (omega (arith, l, r.0), in-from (suc x) (suc x) hi xs (omega arith) r.1)

pub in-under : (n lo hi : ℕ) (xs : List ℕ) → hi ≤ n → RisesIn lo hi xs → AllUnder n xs
in-under n lo hi [] l r = tt
in-under n lo hi (x ∷ xs) l r = let h = in-length
    (suc x) hi xs r.1 in (omega (arith, h, l), in-under n (suc x) hi xs l r.1)

pub in-filter : (p : ℕ → Bool) (lo hi : ℕ) (xs : List ℕ) → RisesIn lo hi xs → RisesIn lo hi (filter p xs)
in-filter p lo hi [] r = r
in-filter p lo hi (x ∷ xs) r = elim (p x) as (λ b. RisesIn lo hi (cond b (x ∷ filter p xs) (filter p xs))) [
  | true ↦ (r.0, in-filter p (suc x) hi xs r.1)
  | false ↦ in-less lo (suc x) hi (filter p xs) (omega (arith, r.0)) (in-filter p (suc x) hi xs r.1)
]

pub in-append : (lo mid hi : ℕ) (xs ys : List ℕ) → RisesIn lo mid xs → RisesIn mid hi ys → RisesIn lo hi (xs ++ ys)
in-append lo mid hi [] ys r s = in-less lo mid hi ys r s
in-append lo mid hi (x ∷ xs) ys r s = (r.0, in-append (suc x) mid hi xs ys r.1 s)

other : (x g : ℕ) → g ≤ x → (x ≡ g → ⊥) → g < x
other x g l n = omega (arith, l, n)

pub in-placed : (lo hi g : ℕ) (xs : List ℕ) → RisesIn lo hi xs → IsNone g xs → lo ≤ g → g < hi
    → RisesIn lo hi (placed g xs)
in-placed lo hi g [] r n l h = (l, omega (arith, h))
in-placed lo hi g (x ∷ xs) r n l h = elim (nat_lt g x) as (λ t. nat_lt g x ≡ t
    → RisesIn lo hi (cond t (g ∷ x ∷ xs) (x ∷ placed g xs))) [
      | true ↦ λ t. let a = ltb-true g x t in (l, (omega (arith, a), r.1))
      | false ↦ λ t. let a = ltb-false g x t in let b =
          other g x a (λ e. n.0 (sym e)) in (r.0, in-placed (suc x) hi g xs r.1 n.1 (omega (arith, b)) h)
    ] refl

pub placed-length : (g : ℕ) (xs : List ℕ) → length (placed g xs) ≡ length xs + 1
placed-length g [] = refl
placed-length g (x ∷ xs) = let h = placed-length g
    xs in elim (nat_lt g x) as (λ t. length (cond t (g ∷ x ∷ xs) (x ∷ placed g xs)) ≡ suc (length xs) + 1) [
      | true ↦ omega arith
      | false ↦ omega (arith, h)
    ]

-- there is room for one that is none of them
pub in-room : (lo hi g : ℕ) (xs : List ℕ) → RisesIn lo hi xs → IsNone g xs → lo ≤ g → g < hi → lo + length xs < hi
in-room lo hi g xs r n l h = omega (
  arith,
  in-length lo hi (placed g xs) (in-placed lo hi g xs r n l h),
  placed-length g xs,
)
