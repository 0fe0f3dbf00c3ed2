-- Laws on levels and reasons.
use Rattle.std.specs.Prelude.{◌≡◌, ◌≤◌, ◌↔◌, ℕ, List, []}
use Rattle.golf_theory.specs.Membership.{In}
use Rattle.golf_theory.specs.Counts.{times}
use Rattle.golf_model.specs.declared.graph.GraphParts.{GraphParts}
use Rattle.golf_model.specs.Graph.{Least, IsInRange}
use Rattle.golf_cert.specs.Levels.{IsReason}
use Rattle.golf_cert.specs.ComputedLevels.{least_in_order, reason_to}

-- a place has at most one reason
abbrev pub OneReason : Type 0
OneReason = (g : GraphParts) (p : ℕ) (a b : List ℕ) → IsReason g p a → IsReason g p b → a ≡ b

-- the computed list is the one reason of each place of the least closed set, and is empty for any other place
abbrev pub ReasonsComputed : Type 0
ReasonsComputed = (g : GraphParts) → IsInRange g → (p : ℕ)
    → ((places : List ℕ) → IsReason g p places ↔ (Least g p × (places ≡ reason_to g p)))
    × ((Least g p → ⊥) → reason_to g p ≡ [])

-- the computed list has the places of the least closed set, each once
abbrev pub OrderComputed : Type 0
OrderComputed = (g : GraphParts) → IsInRange g → (p : ℕ) → (In p (least_in_order g) ↔ Least g p)
    × (times p (least_in_order g) ≤ 1)
