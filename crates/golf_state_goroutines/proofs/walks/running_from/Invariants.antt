use Rattle.std.proofs.Common.{◌≡◌, ◌+◌}
use Rattle.golf_state_goroutines.specs.RunBlocks.{runs_before}
use Rattle.golf_state_goroutines.proofs.walks.running_from.Given as goal

-- what is left after the blocks so far
abbrev pub invariant-loop-at : goal.invariant-loop-at
invariant-loop-at l = runs_before l.blocks l.at + l.rest ≡ runs_before l.blocks l.start + l.k
