use Rattle.std.proofs.Common.{◌≡◌, drop}
use Rattle.golf_model.specs.Waiters.{wait_on}
use Rattle.golf_state.proofs.wake_causes.wait_on.Given as goal

-- none of the waits so far is on the object
abbrev pub invariant-loop-wait : goal.invariant-loop-wait
invariant-loop-wait l = wait_on l.object.0 l.waits ≡ wait_on l.object.0 (drop l.wait-index l.waits)
