-- Keys that stand at an index which the key tells.
-- For: `rank`, specs/Maps.antt
-- By: induction over the list of entries
use Rattle.std.proofs.Common.{◌≡◌, ℕ, zero, suc, ◌+◌, ◌≤◌, cond, List, [], ◌∷◌, Some, ap, ◌∙◌, arith, slice_get}
use Rattle.std.proofs.lemmas.Bool.{lt-ltb, le-ltb}
use Rattle.golf_theory.specs.Maps.{Rises, rank}

module _ {X : Type 0} where
  -- the entry at a place has at least the first number that could be there, and the place more
  pub at-least : (j i : ℕ) (es : List (ℕ × X)) (e : ℕ × X) → Rises j es → slice_get es i ≡ Some e → j + i ≤ e.0
  at-least j i [] e r h = absurd (cc)
  at-least j zero (f ∷ es) e r h = let same : f ≡ e = cc in omega (arith, r.0, ap (λ (x : ℕ × X). x.0) same)
  at-least j (suc i) (f ∷ es) e r h = let a = at-least (suc f.0) i es e r.1 h in omega (arith, r.0, a)

  -- one that stands at the difference of its number and the first one that could be there
  pub rank-from : (j i k : ℕ) (es : List (ℕ × X)) (e : ℕ × X) → Rises j es → slice_get es i ≡ Some e → e.0 ≡ k
      → k ≡ j + i
      → rank k es ≡ i
  rank-from j i k [] e r h n is = absurd (cc)
  rank-from j zero k (f ∷ es) e r h n is =
      let same : f ≡ e = cc in
      ap (λ t. cond t (suc (rank k es)) 0) (le-ltb f.0 k (omega (arith, n, ap (λ (x : ℕ × X). x.0) same)))
  rank-from j (suc i) k (f ∷ es) e r h n is =
      let a = at-least (suc f.0) i es e r.1 h in
      let here : f.0 ≡ j = omega (arith, a, r.0, n, is) in
      ap (λ t. cond t (suc (rank k es)) 0) (lt-ltb f.0 k (omega (arith, here, is)))
      ∙ ap suc (rank-from (suc f.0) i k es e r.1 h n (omega (arith, here, is)))

  -- none before it is missing
  pub rank-there : (k i : ℕ) (es : List (ℕ × X)) (e : ℕ × X) → Rises 1 es → slice_get es i ≡ Some e → e.0 ≡ k
      → k ≡ 1 + i → rank k es ≡ i
  rank-there k i es e r h n is = rank-from 1 i k es e r h n is

  pub rank-here : (k : ℕ) (es : List (ℕ × X)) (e : ℕ × X) → Rises 0 es → slice_get es k ≡ Some e → e.0 ≡ k
      → rank k es ≡ k
  rank-here k es e r h n = rank-from 0 k k es e r h n (omega arith)
