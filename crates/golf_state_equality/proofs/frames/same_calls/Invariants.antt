use Rattle.std.proofs.Common.{◌≡◌, drop}
use Rattle.golf_state_equality.proofs.frames.same_calls.Given as goal

abbrev pub invariant-loop-at : goal.invariant-loop-at
invariant-loop-at l = drop l.at l.calls ≡ drop l.at l.others → l.calls ≡ l.others
