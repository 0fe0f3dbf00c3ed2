-- The places of a graph, and the justification of a marked place.
use Rattle.std.specs.Prelude.{ℕ, ◌+◌, ◌/◌, List}
use Rattle.golf_theory.specs.Membership.{In}
use Rattle.golf_theory.specs.Reached.{Follows}
use Rattle.golf_model.specs.declared.graph.GraphParts.{GraphParts}
use Rattle.golf_model.specs.Graph.{node_count, sleeper_count, Justifies}

-- the number of nodes and sleepers together
abbrev pub place_count : GraphParts → ℕ
place_count g = node_count g + sleeper_count g

-- one word for each 64 places and one more, so there is always at least one
abbrev pub word_count : GraphParts → ℕ
word_count g = place_count g / 64 + 1

-- the place is a root, or one of these places justifies it
abbrev pub IsJustified : GraphParts → List ℕ → ℕ → Type 0
IsJustified g places p = Follows (λ x. In x g.roots) (Justifies g) places p
