use Rattle.std.proofs.Common.{◌≡◌, take}
use Rattle.golf_reclaim.specs.Flags.{either}
use Rattle.golf_reclaim.proofs.markings.retained.Given as goal

-- those so far
abbrev pub invariant-loop-node : goal.invariant-loop-node
invariant-loop-node l = l.keep ≡ either (take l.node l.marked) (take l.node l.graph.finalised)
