use Rattle.std.proofs.Common.{◌≡◌, ℕ, suc, ◌<◌, Some, slice_get}
use Rattle.golf_explore.specs.declared.alike_states.WaitPair.{WaitPair}
use Rattle.golf_explore.specs.AlikeStates.{ComesBefore}
use Rattle.golf_explore.proofs.alike_states.are_in_order.Given as goal

-- the waits so far are in order
abbrev pub invariant-loop-at : goal.invariant-loop-at
invariant-loop-at l = (i : ℕ) (v w : WaitPair) → suc i < l.at → slice_get l.waits i ≡ Some v
    → slice_get l.waits (suc i) ≡ Some w → ComesBefore v w
