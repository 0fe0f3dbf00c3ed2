use Rattle.std.proofs.Common.{◌≡◌, take}
use Rattle.golf_state_goroutines.proofs.copies.copied_calls.Given as goal

-- those so far
abbrev pub invariant-loop-call : goal.invariant-loop-call
invariant-loop-call l = l.copies ≡ take l.call-index l.calls
