use Rattle.std.proofs.Common.{◌≡◌, ◌+◌, ◌*◌}
use Rattle.golf_state_goroutines.specs.RunBlocks.{runs_before}
use Rattle.golf_state_goroutines.proofs.walks.running_at.Given as goal

-- what is left after the blocks of the sums so far
abbrev pub invariant-loop-at : goal.invariant-loop-at
invariant-loop-at l = runs_before l.blocks (64 * l.at) + l.rest ≡ l.k
