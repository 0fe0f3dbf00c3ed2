use Rattle.std.proofs.Common.{◌≡◌, map, take}
use Rattle.golf_snapshot.specs.Parts.{row_of}
use Rattle.golf_snapshot.proofs.nodes.children.Given as goal

-- those so far
abbrev pub invariant-loop-rank : goal.invariant-loop-rank
invariant-loop-rank l = l.rows ≡ map (row_of l.heap.objects) (take l.rank l.heap.objects)
