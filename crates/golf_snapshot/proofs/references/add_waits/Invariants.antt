use Rattle.std.proofs.Common.{◌≡◌, ◌++◌, take}
use Rattle.golf_model.specs.Refs.{wait_refs}
use Rattle.golf_snapshot.specs.Parts.{ranks}
use Rattle.golf_snapshot.proofs.references.add_waits.Given as goal

-- the nodes so far
abbrev pub invariant-loop-wait : goal.invariant-loop-wait
invariant-loop-wait l = l.nodes ≡ l.fn.nodes ++ ranks l.heap.objects (wait_refs (take l.wait-index l.waits))
