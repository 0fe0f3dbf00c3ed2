use Rattle.std.proofs.Common.{◌≡◌, take}
use Rattle.golf_blocks.specs.Blocks.{entries_in}
use Rattle.golf_state_goroutines.specs.Goroutines.{IsListed}
use Rattle.golf_state_goroutines.specs.Places.{plain_entries}
use Rattle.golf_state_goroutines.specs.Ready.{AllReady}
use Rattle.golf_state_goroutines.proofs.copies.copied_roster.Given as goal

-- those so far
abbrev pub invariant-loop-at : goal.invariant-loop-at
invariant-loop-at l = record {
  places : plain_entries l.copy.places ≡ plain_entries (entries_in (take l.at l.blocks));
  listed : IsListed l.copy;
  ready : AllReady l.copy.places;
}
