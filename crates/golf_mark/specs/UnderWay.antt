-- A marking under way in one thread.
use Rattle.std.specs.Prelude.{◌≡◌, ◌+◌, ◌<◌, ◌≤◌, ◌↔◌, ◌++◌, ◌⊎◌, ℕ, List, Bool, not, count_by, length, slice_index_or}
use Rattle.golf_theory.specs.Membership.{In}
use Rattle.golf_base.specs.Roomy.{Roomy}
use Rattle.golf_model.specs.declared.graph.GraphParts.{GraphParts}
use Rattle.golf_model.specs.Graph.{node_count, sleeper_count, Justifies, Least}
use Rattle.golf_marks.specs.Flags.{IsSet}

-- the number of places, and the marked places in the order of marking
pub record Working : Type 0 where
  pub places : ℕ
  pub order : List ℕ

-- the list has exactly the marked places, and room for all others
pub record IsWorking (bits : List Bool) (order : Roomy ℕ) : Type 0 where
  pub room : count_by not bits ≤ order.spare
  pub counted : count_by not bits + length order.items ≡ length bits
  pub listed : (p : ℕ) → In p order.items ↔ IsSet bits p

-- the marked places are the old ones, and then some of this kind
pub record Gains (Kind : ℕ → Type 0) (old new : Working) : Type 0 where
  pub places : new.places ≡ old.places
  pub added : (more : List ℕ) × (new.order ≡ old.order ++ more) × ((p : ℕ) → In p more → Kind p)

-- all places that a place justifies are in the list
abbrev pub IsScanned : GraphParts → List ℕ → ℕ → Type 0
IsScanned g marked p = (q : ℕ) → Justifies g p q → In q marked

-- the first of the marked places are scanned
pub record IsMarkingUnderWay (g : GraphParts) (w : Working) (scanned : ℕ) : Type 0 where
  pub places : w.places ≡ node_count g + sleeper_count g
  pub within : scanned ≤ length w.order
  pub sound : (p : ℕ) → In p w.order → Least g p
  pub roots : (p : ℕ) → In p g.roots → In p w.order
  pub done : (k : ℕ) → k < scanned → IsScanned g w.order (slice_index_or w.order k 0)

-- one list is the other one without this place
pub record IsTaken (place : ℕ) (old new : List ℕ) : Type 0 where
  pub there : In place old
  pub rest : (p : ℕ) → In p old → (p ≡ place) ⊎ In p new
  pub part : (p : ℕ) → In p new → In p old
