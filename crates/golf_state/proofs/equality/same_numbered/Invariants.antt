use Rattle.std.proofs.Common.{◌≡◌, drop}
use Rattle.golf_state.proofs.equality.same_numbered.Given as goal

abbrev pub invariant-loop-at : goal.invariant-loop-at
invariant-loop-at l = drop l.at l.state.goroutines ≡ drop l.at l.other.goroutines
    → l.state.goroutines ≡ l.other.goroutines
