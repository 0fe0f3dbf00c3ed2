use Rattle.std.proofs.Common.{◌≡◌, ◌++◌, take}
use Rattle.golf_state_goroutines.specs.Goroutines.{IsListed}
use Rattle.golf_state_goroutines.specs.Places.{plain_entries}
use Rattle.golf_state_goroutines.specs.Ready.{AllReady}
use Rattle.golf_state_goroutines.proofs.copies.add_copies.Given as goal

-- those so far
abbrev pub invariant-loop-place : goal.invariant-loop-place
invariant-loop-place l = record {
  places : plain_entries l.roster.places ≡ plain_entries l.fn.roster.places
      ++ plain_entries (take l.place-index l.places);
  listed : IsListed l.roster;
  ready : AllReady l.fn.roster.places → AllReady l.roster.places;
}
