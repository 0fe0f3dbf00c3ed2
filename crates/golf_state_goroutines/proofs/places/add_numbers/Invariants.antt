use Rattle.std.proofs.Common.{◌≡◌, ◌++◌, take}
use Rattle.golf_theory.specs.Maps.{keys}
use Rattle.golf_state_goroutines.specs.Places.{plain_entries}
use Rattle.golf_state_goroutines.specs.RunBlocks.{numbers}
use Rattle.golf_state_goroutines.proofs.places.add_numbers.Given as goal

-- those so far
abbrev pub invariant-loop-place : goal.invariant-loop-place
invariant-loop-place l = numbers l.list ≡ numbers l.fn.list ++ keys (plain_entries (take l.place-index l.places))
