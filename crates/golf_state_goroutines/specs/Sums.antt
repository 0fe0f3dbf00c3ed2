-- How many goroutines run in each 64 blocks.
use Rattle.std.specs.Prelude.{◌≡◌, ◌≤◌, ◌*◌, ◌+◌, ℕ, List, length, get_or}
use Rattle.golf_state_goroutines.specs.RunBlocks.{runs_before}
use Rattle.golf_state_goroutines.specs.declared.run_blocks.RunBlock.{RunBlock}

-- each sum is how many goroutines run in its 64 blocks: the difference of the counts before and behind them
abbrev pub AreSums : (ℕ → ℕ) → List ℕ → Type 0
AreSums before ns = (j : ℕ) → before (64 * j + 64) ≡ before (64 * j) + get_or ns j 0

-- the sums are those of these blocks, and there are enough of them
pub record HasSums (bs : List RunBlock) (ns : List ℕ) : Type 0 where
  pub each : AreSums (runs_before bs) ns
  pub enough : length bs ≤ 64 * length ns
