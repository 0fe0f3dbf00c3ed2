use Rattle.std.proofs.Common.{◌≡◌, ◌++◌, take}
use Rattle.golf_model.specs.Values.{refs}
use Rattle.golf_snapshot.specs.Parts.{ranks}
use Rattle.golf_snapshot.proofs.references.add_values.Given as goal

-- the nodes so far
abbrev pub invariant-loop-value : goal.invariant-loop-value
invariant-loop-value l = l.nodes ≡ l.fn.nodes ++ ranks l.heap.objects (refs (take l.value-index l.values))
