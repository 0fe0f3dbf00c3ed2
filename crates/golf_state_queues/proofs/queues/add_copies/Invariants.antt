use Rattle.std.proofs.Common.{◌≡◌, ◌++◌, take}
use Rattle.golf_state_queues.specs.WaitQueues.{wait_queues_of}
use Rattle.golf_state_queues.proofs.queues.add_copies.Given as goal

-- those so far
abbrev pub invariant-loop-queue : goal.invariant-loop-queue
invariant-loop-queue l = wait_queues_of l.to.items ≡ wait_queues_of l.fn.to.items
    ++ wait_queues_of (take l.queue-index l.queues)
