use Rattle.std.proofs.Common.{◌≡◌, drop}
use Rattle.golf_model.specs.Waiters.{wait_for}
use Rattle.golf_state.proofs.waiters.wait_for.Given as goal

-- none of the waits so far fits
abbrev pub invariant-loop-wait : goal.invariant-loop-wait
invariant-loop-wait l = wait_for l.object.0 l.side l.waits ≡ wait_for l.object.0 l.side (drop l.wait-index l.waits)
