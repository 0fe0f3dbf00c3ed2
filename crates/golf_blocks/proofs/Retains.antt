-- Entries that are taken away together, block by block.
-- For: `kept` (golf_theory/specs/Flags.antt) and `retain_entries` (src/removals.rt)
-- By: induction over a list
use Rattle.std.proofs.Common.{◌≡◌, ℕ, zero, suc, Bool, true, false, cond, List, [], ◌∷◌, ◌++◌, length, take, drop, refl}
use Rattle.std.proofs.Common.{ap, arith}
use Rattle.golf_theory.specs.Flags.{kept}

module _ {X : Type 0} where
  pub kept-split : (m : ℕ) (bits : List Bool) (xs ys : List X) → m ≡ length xs
      → kept bits (xs ++ ys) ≡ kept (take m bits) xs ++ kept (drop m bits) ys
  kept-split zero bits [] ys e = refl
  kept-split zero bits (x ∷ xs) ys e = absurd (omega (arith, e))
  kept-split (suc m) bits [] ys e = absurd (omega (arith, e))
  kept-split (suc m) [] (x ∷ xs) ys e = refl
  kept-split (suc m) (b ∷ bits) (x ∷ xs) ys e =
      elim b as (λ b. cond b (x ∷ kept bits (xs ++ ys)) (kept bits (xs ++ ys)) ≡ cond b (x ∷ kept (take m bits) xs)
      (kept (take m bits) xs) ++ kept (drop m bits) ys) [
        | true ↦ ap (λ (zs : List X). x ∷ zs) (kept-split m bits xs ys (omega (arith, e)))
        | false ↦ kept-split m bits xs ys (omega (arith, e))
      ]

  pub kept-none : (bits : List Bool) (xs : List X) → xs ≡ [] → kept bits xs ≡ []
  kept-none [] xs e = refl
  kept-none (b ∷ bits) [] e = refl
  kept-none (b ∷ bits) (x ∷ xs) e = absurd (cc)
