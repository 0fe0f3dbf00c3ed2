use Rattle.std.proofs.Common.{◌≡◌, ◌≤◌, take}
use Rattle.golf_reclaim.specs.Flags.{count_set}
use Rattle.golf_reclaim.proofs.markings.count_set.Given as goal

-- how many so far
abbrev pub invariant-loop-node : goal.invariant-loop-node
invariant-loop-node l = (l.count ≡ count_set (take l.node l.flags)) × (l.count ≤ l.node)
