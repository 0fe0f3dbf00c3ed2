use Rattle.std.proofs.Common.{◌≡◌, ◌++◌, take}
use Rattle.golf_model.specs.Refs.{queue_refs}
use Rattle.golf_snapshot.specs.Parts.{ranks}
use Rattle.golf_snapshot.proofs.goroutines.add_queue.Given as goal

-- the nodes so far
abbrev pub invariant-loop-queued : goal.invariant-loop-queued
invariant-loop-queued l = l.nodes ≡ l.fn.nodes ++ ranks l.heap.objects (queue_refs (take l.queued-index l.queue))
