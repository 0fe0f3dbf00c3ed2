use Rattle.std.proofs.Common.{◌≡◌, ◌≤◌, drop, length}
use Rattle.std.specs.Prelude.{option_map}
use Rattle.golf_model.specs.Waiters.{first}
use Rattle.golf_blocks.specs.Blocks.{entries_in}
use Rattle.golf_state_goroutines.specs.Places.{plain_entries}
use Rattle.golf_state.specs.Waited.{waiting_of}
use Rattle.golf_state.proofs.waiters.first_waiter.Given as goal

-- the first of those in the blocks from `at` on
abbrev pub invariant-loop-at : goal.invariant-loop-at
invariant-loop-at l = record {
  within : l.at ≤ length l.blocks;
  best : l.best ≡ option_map waiting_of (first l.object.0 l.side (plain_entries (entries_in (drop l.at l.blocks))));
}

abbrev pub decreases-loop-at : goal.decreases-loop-at
decreases-loop-at l = l.at
