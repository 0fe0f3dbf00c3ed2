use Rattle.std.proofs.Common.{◌≡◌, length, take}
use Rattle.golf_state_goroutines.specs.RunBlocks.{runs_before}
use Rattle.golf_state_goroutines.specs.Sums.{AreSums}
use Rattle.golf_state_goroutines.proofs.sums.recount.Given as goal

-- the sums of the blocks so far
abbrev pub invariant-loop-at : goal.invariant-loop-at
invariant-loop-at l = record {
  each : AreSums (runs_before (take l.at l.blocks)) l.sums.items;
  len : length l.sums.items ≡ length l.fn.sums.items;
}
