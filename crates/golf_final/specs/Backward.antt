-- The reversed graph.
use Rattle.std.specs.Prelude.{◌≡◌, ◌<◌, ◌↔◌, ℕ, Bool, List, [], length}
use Rattle.golf_theory.specs.Membership.{In}
use Rattle.golf_base.specs.declared.ids.ObjectId.{ObjectId}
use Rattle.golf_model.specs.declared.graph.GraphParts.{GraphParts}
use Rattle.golf_model.specs.Graph.{node_count, children_of, NumbersRise}
use Rattle.golf_final.specs.KeepRule.{Prevents}

-- `many` numbers, which rise from `first`
pub record HasNumbers (first many : ℕ) (numbers : List ObjectId) : Type 0 where
  pub count : length numbers ≡ many
  pub rise : NumbersRise first numbers

-- The reversed graph has the same nodes and all edges reversed. Its roots are the nodes that keep each dead goroutine
-- that reaches them.
pub record IsBackward (g : GraphParts) (flags : List Bool) (sets_finalisers : Bool) (b : GraphParts) : Type 0 where
  pub nodes : node_count b ≡ node_count g
  pub none : b.sleepers ≡ []
  pub parents : (p q : ℕ) → In p (children_of b q) ↔ ((p < node_count g) × In q (children_of g p))
  pub roots : (p : ℕ) → In p b.roots ↔ ((p < node_count g) × Prevents g flags sets_finalisers p)
