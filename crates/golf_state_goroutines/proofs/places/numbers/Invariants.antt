use Rattle.std.proofs.Common.{◌≡◌, take}
use Rattle.golf_theory.specs.Maps.{keys}
use Rattle.golf_state_goroutines.specs.Places.{plain_entries}
use Rattle.golf_blocks.specs.Blocks.{entries_in}
use Rattle.golf_state_goroutines.specs.RunBlocks.{numbers}
use Rattle.golf_state_goroutines.proofs.places.numbers.Given as goal

-- those so far
abbrev pub invariant-loop-at : goal.invariant-loop-at
invariant-loop-at l = numbers l.list ≡ keys (plain_entries (entries_in (take l.at l.blocks)))
