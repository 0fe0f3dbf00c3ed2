-- Graphs under construction (this repository).
use Rattle.std.specs.Prelude.{◌^◌, ◌≡◌, ◌<◌, ℕ, List, [], ◌∷◌, ◌++◌, false, length}
use Rattle.golf_theory.specs.Membership.{Every}
use Rattle.golf_model.specs.declared.graph.GraphParts.{GraphParts}
use Rattle.golf_model.specs.Graph.{NumbersRise}

abbrev pub NodesBelow : ℕ → List ℕ → Type 0
NodesBelow n ps = Every (λ p. p < n) ps

-- the nodes so far are numbered in order, and each place that they name is below the count
pub record IsInMaking (count : ℕ) (g : GraphParts) : Type 0 where
  pub small : count < 2 ^ 32
  pub numbered : length g.numbers ≡ length g.children
  pub flagged : length g.finalised ≡ length g.children
  pub rising : NumbersRise 0 g.numbers
  pub below : Every (λ o. o.0 < length g.numbers) g.numbers
  pub children : Every (NodesBelow count) g.children
  pub roots : NodesBelow count g.roots
  pub waits : Every (λ x. NodesBelow count x.waits) g.sleepers
  pub references : Every (λ x. NodesBelow count x.references) g.sleepers

-- the graph without a node
abbrev pub no_parts : GraphParts
no_parts = record { numbers = []; children = []; finalised = []; roots = []; sleepers = [] }

-- the graph with one more node, which has these children
abbrev pub with_node : GraphParts → List ℕ → GraphParts
with_node g row = record {
  numbers = g.numbers ++ record { 0 = length g.children } ∷ [];
  children = g.children ++ row
      ∷ [];
  finalised = g.finalised ++ false ∷ [];
  roots = g.roots;
  sleepers = g.sleepers;
}

-- the graph with one more root
abbrev pub with_root : GraphParts → ℕ → GraphParts
with_root g node = record {
  numbers = g.numbers;
  children = g.children;
  finalised = g.finalised;
  roots = g.roots ++ node
      ∷ [];
  sleepers = g.sleepers;
}

-- the graph with one more sleeper, whose goroutine has the number 0
abbrev pub with_sleeper : GraphParts → List ℕ → List ℕ → GraphParts
with_sleeper g waits references = record {
  numbers = g.numbers;
  children = g.children;
  finalised = g.finalised;
  roots = g.roots;
  sleepers = g.sleepers
      ++ record { goroutine = record { 0 = 0 }; waits = waits; references = references } ∷ [];
}
