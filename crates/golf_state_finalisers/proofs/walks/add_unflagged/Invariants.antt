use Rattle.std.proofs.Common.{◌≡◌, ◌++◌, take}
use Rattle.golf_theory.specs.Flags.{left_out}
use Rattle.golf_model.specs.Collections.{queued}
use Rattle.golf_state_finalisers.proofs.walks.add_unflagged.Given as goal

-- those so far
abbrev pub invariant-loop-at : goal.invariant-loop-at
invariant-loop-at l = l.entries ≡ l.fn.entries ++ queued (left_out (take l.at l.stays) (take l.at l.pairs))
