-- The result of a marking.
use Rattle.std.specs.Prelude.{◌≡◌, ◌+◌, ◌<◌, ◌↔◌, ℕ, List, Bool, true, false, length, slice_index_or}
use Rattle.std.specs.List.Sorted.{IsStrictlyIncreasing}
use Rattle.golf_theory.specs.Membership.{In}
use Rattle.golf_model.specs.declared.graph.Marked.{Marked}

-- the flag of this number is true; there is no flag past the last one
abbrev pub IsSet : List Bool → ℕ → Type 0
IsSet flags n = slice_index_or flags n false ≡ true

-- The marking has exactly the places with this property. It has a flag for each node and for each sleeper. It has the
-- numbers of the marked nodes, each once, in rising order.
pub record HasMarked (nodes sleepers : ℕ) (P : ℕ → Type 0) (m : Marked) : Type 0 where
  pub flag_count : length m.flags ≡ nodes
  pub awake_count : length m.awake ≡ sleepers
  pub flags : (p : ℕ) → IsSet m.flags p ↔ ((p < nodes) × P p)
  pub awake : (s : ℕ) → s < sleepers → IsSet m.awake s ↔ P (nodes + s)
  pub rising : IsStrictlyIncreasing m.order
  pub order : (p : ℕ) → In p m.order ↔ IsSet m.flags p
