-- Without its sleepers a graph still names places that there are.
-- For: `IsInRange` (golf_model/specs/Graph.antt) and `without_sleepers` (src/graph.rt)
-- By: arithmetic; no induction
use Rattle.std.proofs.Common.{ℕ, List, [], arith}
use Rattle.golf_model.specs.declared.graph.GraphParts.{GraphParts}
use Rattle.golf_model.specs.Graph.{AreNodes, IsInRange}

pub without-in_range : (g : GraphParts) (roots : List ℕ) → IsInRange g → AreNodes g roots
    → IsInRange (record g { roots = roots; sleepers = [] })
without-in_range g roots range nodes = record {
  numbered = range.numbered;
  flagged = range.flagged;
  numbers = range.numbers;
  few = omega (arith, range.few);
  children = range.children;
  roots = nodes;
  waits = tt;
  references = tt;
}
