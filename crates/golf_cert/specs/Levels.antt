-- Levels of places, and reasons.
use Rattle.std.specs.Prelude.{◌≡◌, ◌+◌, ◌<◌, ◌≤◌, ℕ, List, [], ◌∷◌, ◌++◌, length, slice_index}
use Rattle.golf_theory.specs.Membership.{In}
use Rattle.golf_theory.specs.Derivation.{IsDerivation}
use Rattle.golf_theory.specs.Reached.{Follows}
use Rattle.golf_model.specs.declared.graph.GraphParts.{GraphParts}
use Rattle.golf_model.specs.Graph.{Justifies}

-- a list, the newest entry first; each entry is a root, or an earlier entry justifies it
abbrev pub IsWay : GraphParts → List ℕ → Type 0
IsWay g = IsDerivation (Follows (λ p. In p g.roots) (Justifies g))

-- the level of a place: the least length of such a list that ends with the place
pub record IsLevel (g : GraphParts) (place level : ℕ) : Type 0 where
  pub way : (earlier : List ℕ) × IsWay g (place ∷ earlier) × (length (place ∷ earlier) ≡ level)
  pub least : (earlier : List ℕ) → IsWay g (place ∷ earlier) → level ≤ length (place ∷ earlier)

-- the smallest of the places of this level that justify the next one
pub record IsLeastBefore (g : GraphParts) (level next place : ℕ) : Type 0 where
  pub at_level : IsLevel g place level
  pub justifies : Justifies g place next
  pub least : (other : ℕ) → IsLevel g other level → Justifies g other next → place ≤ other

-- The reason of a place: a shortest list that ends with it. Each place except for the last is the smallest of its level
-- that justifies the next one.
pub record IsReason (g : GraphParts) (place : ℕ) (places : List ℕ) : Type 0 where
  pub level : IsLevel g place (length places)
  pub ends : (before : List ℕ) × (places ≡ before ++ place ∷ [])
  pub before : (k : ℕ) → k + 1 < length places
      → IsLeastBefore g (k + 1) (slice_index places (k + 1)) (slice_index places k)

-- no list that ends with the place is shorter
abbrev pub IsShortest : GraphParts → ℕ → ℕ → Type 0
IsShortest g place count = (earlier : List ℕ) → IsWay g (place ∷ earlier) → count ≤ length (place ∷ earlier)
