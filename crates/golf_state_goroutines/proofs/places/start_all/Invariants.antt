use Rattle.std.proofs.Common.{◌≡◌, ◌++◌, take}
use Rattle.golf_blocks.specs.Blocks.{entries_in}
use Rattle.golf_state_goroutines.specs.Places.{plain_entries, running_of}
use Rattle.golf_state_goroutines.proofs.places.start_all.Given as goal

-- those so far
abbrev pub invariant-loop-at : goal.invariant-loop-at
invariant-loop-at l = l.runs ≡ record l.fn.runs {
  numbers = l.fn.runs.numbers ++ running_of (plain_entries (entries_in (take l.at l.blocks)));
}
