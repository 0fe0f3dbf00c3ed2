use Rattle.std.proofs.Common.{◌≡◌, false, take}
use Rattle.golf_theory.specs.Membership.{any_of}
use Rattle.golf_model.specs.Collections.{is_setting}
use Rattle.golf_reclaim.proofs.finaliser_setters.sets_one.Given as goal

-- none so far
abbrev pub invariant-loop-line : goal.invariant-loop-line
invariant-loop-line l = any_of (λ k. is_setting k.instr) (take l.line-index l.function.body) ≡ false
