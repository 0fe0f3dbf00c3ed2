use Rattle.std.proofs.Common.{◌≡◌, ◌++◌, take}
use Rattle.golf_snapshot.specs.MapEntries.{finalised_rows}
use Rattle.golf_snapshot.proofs.retained.add_finalised_rows.Given as goal

-- the nodes so far
abbrev pub invariant-loop-node : goal.invariant-loop-node
invariant-loop-node l = l.nodes ≡ l.fn.nodes
    ++ finalised_rows (take l.node l.graph.finalised) (take l.node l.graph.children)
