-- The sleepers that wait on each node of a graph.
use Rattle.std.specs.Prelude.{◌<◌, ◌↔◌, ℕ, List}
use Rattle.golf_theory.specs.Membership.{In}
use Rattle.golf_rows.specs.Rows.{row_of}
use Rattle.golf_model.specs.declared.graph.GraphParts.{GraphParts}
use Rattle.golf_model.specs.Graph.{sleeper_count, sleeper_waits}

-- each node's row has the sleepers that wait on it; without a sleeper there may be no rows
pub record IsWaiters (g : GraphParts) (rows : List (List ℕ)) : Type 0 where
  pub members : (n s : ℕ) → In s (row_of rows n) ↔ ((s < sleeper_count g) × In n (sleeper_waits g s))
