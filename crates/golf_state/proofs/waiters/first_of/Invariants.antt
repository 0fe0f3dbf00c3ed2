use Rattle.std.proofs.Common.{◌≡◌, ◌≤◌, ℕ, List, ◌++◌, drop, length}
use Rattle.std.specs.Prelude.{option_map}
use Rattle.golf_model.specs.Views.{GoroutineView}
use Rattle.golf_model.specs.Waiters.{first}
use Rattle.golf_state_goroutines.specs.Places.{plain_entries}
use Rattle.golf_state.specs.Waited.{waiting_of}
use Rattle.golf_state.proofs.waiters.first_of.Given as goal

-- the first of those from `at` on and of those behind
abbrev pub invariant-loop-at : goal.invariant-loop-at
invariant-loop-at l = record {
  within : l.at ≤ length l.places;
  best : (rest : List (ℕ × GoroutineView)) → l.fn.later ≡ option_map waiting_of (first l.object.0 l.side rest)
      → l.best ≡ option_map waiting_of (first l.object.0 l.side (drop l.at (plain_entries l.places) ++ rest));
}

abbrev pub decreases-loop-at : goal.decreases-loop-at
decreases-loop-at l = l.at
