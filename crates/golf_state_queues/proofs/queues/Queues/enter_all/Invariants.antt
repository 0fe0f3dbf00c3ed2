use Rattle.std.proofs.Common.{◌+◌, ◌<◌, take}
use Rattle.golf_state_queues.specs.WaitQueues.{keys_of, AddsOnly, TicketsBelow, KeepsWaiters, StandsInAll}
use Rattle.golf_state_queues.proofs.queues.Queues.enter_all.Given as goal

-- the goroutine stands in the queues of the waits so far
abbrev pub invariant-loop-wait : goal.invariant-loop-wait
invariant-loop-wait l = record {
  joins : StandsInAll l.ticket l.goroutine.0 (take l.wait-index l.waits) l.self;
  kept : KeepsWaiters (λ t g. t < l.ticket) l.initial.self l.self;
  only : AddsOnly l.ticket l.goroutine.0 (keys_of l.waits) l.initial.self l.self;
  below : TicketsBelow (l.ticket + 1) l.self;
}
