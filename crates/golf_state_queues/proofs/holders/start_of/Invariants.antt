use Rattle.std.proofs.Common.{◌≡◌, ◌-◌, ◌≤◌, drop, length}
use Rattle.golf_state_queues.specs.WaitQueues.{held}
use Rattle.golf_state_queues.proofs.holders.start_of.Given as goal

-- all so far are gone
abbrev pub invariant-loop-start : goal.invariant-loop-start
invariant-loop-start l = record {
  within : l.start ≤ length l.holders;
  same : held (drop l.start l.holders) ≡ held l.holders;
}

abbrev pub decreases-loop-start : goal.decreases-loop-start
decreases-loop-start l = length l.holders - l.start
