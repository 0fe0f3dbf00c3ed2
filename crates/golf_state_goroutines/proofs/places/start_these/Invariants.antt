use Rattle.std.proofs.Common.{◌≡◌, ◌++◌, take}
use Rattle.golf_state_goroutines.specs.Places.{plain_entries, running_of}
use Rattle.golf_state_goroutines.proofs.places.start_these.Given as goal

-- those so far
abbrev pub invariant-loop-place : goal.invariant-loop-place
invariant-loop-place l = l.runs ≡ record l.fn.runs {
  numbers = l.fn.runs.numbers ++ running_of (take l.place-index (plain_entries l.places));
}
