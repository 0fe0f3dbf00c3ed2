use Rattle.std.proofs.Common.{take}
use Rattle.golf_state_queues.specs.WaitQueues.{keys_of, leaves, IsWithout}
use Rattle.golf_state_queues.proofs.queues.Queues.leave_all.Given as goal

-- the goroutine is gone from the queues of the waits so far
abbrev pub invariant-loop-wait : goal.invariant-loop-wait
invariant-loop-wait l = IsWithout (leaves l.ticket l.goroutine.0 (keys_of (take l.wait-index l.waits))) l.initial.self
    l.self
