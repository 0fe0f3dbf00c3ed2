-- A walk over the least closed set, by rising level.
use Rattle.std.specs.Prelude.{◌≡◌, ◌+◌, ◌<◌, ◌≤◌, ◌==◌, ◌++◌, ℕ, List, [], ◌∷◌, cond, length, slice_index, slice_set}
use Rattle.golf_theory.specs.Membership.{In}
use Rattle.golf_theory.specs.Counts.{times}
use Rattle.golf_model.specs.declared.graph.GraphParts.{GraphParts}
use Rattle.golf_model.specs.Graph.{Justifies, Least}
use Rattle.golf_cert.specs.Levels.{IsWay, IsLevel}
use Rattle.golf_cert.specs.Steps.{place_count}
use Rattle.golf_cert.specs.declared.walk.Walk.{Walk}

-- a place gets this level, if it has none
abbrev pub claimed : ℕ → ℕ → Walk → Walk
claimed level p w = cond (slice_index w.levels p == 0)
    (record { levels = slice_set w.levels p level; order = w.order ++ p ∷ [] }) w

-- these places get this level, one after another, if they have none
abbrev pub claimed_all : ℕ → List ℕ → Walk → Walk
claimed_all level [] w = w
claimed_all level (p ∷ ps) w = claimed_all level ps (claimed level p w)

-- a list of the least closed set has this length and ends with the place
abbrev pub HasWay : GraphParts → ℕ → ℕ → Type 0
HasWay g p level = (earlier : List ℕ) × IsWay g (p ∷ earlier) × (length (p ∷ earlier) ≡ level)

-- The places that have a level are listed, each once and by rising level. For each there is a list of this length that
-- ends with it.
pub record IsLevelled (g : GraphParts) (w : Walk) : Type 0 where
  pub size : length w.levels ≡ place_count g
  pub none : (p : ℕ) → slice_index w.levels p ≡ 0 → times p w.order ≡ 0
  pub once : (p : ℕ) → 0 < slice_index w.levels p → times p w.order ≡ 1
  pub ways : (p : ℕ) → 0 < slice_index w.levels p → HasWay g p (slice_index w.levels p)
  pub rising : (i j : ℕ) → i ≤ j → j < length w.order
      → slice_index w.levels (slice_index w.order i) ≤ slice_index w.levels (slice_index w.order j)
  pub small : (k : ℕ) → k < length w.order → slice_index w.levels (slice_index w.order k) ≤ k + 1

-- the places before `turn` are scanned, and no level is more than one above that of the place at `turn`
pub record IsWalkUnderWay (g : GraphParts) (w : Walk) (turn : ℕ) : Type 0 where
  pub levelled : IsLevelled g w
  pub within : turn ≤ length w.order
  pub near : turn < length w.order → (p : ℕ)
      → slice_index w.levels p ≤ slice_index w.levels (slice_index w.order turn) + 1
  pub roots : (p : ℕ) → In p g.roots → slice_index w.levels p ≡ 1
  pub done : (k : ℕ) → k < turn → (q : ℕ) → Justifies g (slice_index w.order k) q → (0 < slice_index w.levels q)
      × (slice_index w.levels q ≤ slice_index w.levels (slice_index w.order k) + 1)

-- Each place of the least closed set has its level, and no other place has one. The list has each of them once, by
-- rising level.
pub record HasLevels (g : GraphParts) (w : Walk) : Type 0 where
  pub size : length w.levels ≡ place_count g
  pub levels : (p : ℕ) → 0 < slice_index w.levels p → IsLevel g p (slice_index w.levels p)
  pub least : (p : ℕ) → Least g p → 0 < slice_index w.levels p
  pub none : (p : ℕ) → slice_index w.levels p ≡ 0 → times p w.order ≡ 0
  pub once : (p : ℕ) → 0 < slice_index w.levels p → times p w.order ≡ 1
  pub rising : (i j : ℕ) → i ≤ j → j < length w.order
      → slice_index w.levels (slice_index w.order i) ≤ slice_index w.levels (slice_index w.order j)
  pub small : (p : ℕ) → slice_index w.levels p ≤ place_count g
  pub short : length w.order ≤ place_count g
