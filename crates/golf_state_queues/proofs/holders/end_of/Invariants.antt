use Rattle.std.proofs.Common.{◌≡◌, ◌≤◌, take, length}
use Rattle.golf_state_queues.specs.WaitQueues.{held}
use Rattle.golf_state_queues.proofs.holders.end_of.Given as goal

-- all behind are gone
abbrev pub invariant-loop-end : goal.invariant-loop-end
invariant-loop-end l = record {
  within : l.end ≤ length l.holders;
  same : held (take l.end l.holders) ≡ held l.holders;
}

abbrev pub decreases-loop-end : goal.decreases-loop-end
decreases-loop-end l = l.end
