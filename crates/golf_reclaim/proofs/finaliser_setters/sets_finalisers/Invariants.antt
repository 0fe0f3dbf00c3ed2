use Rattle.std.proofs.Common.{◌≡◌, false, take}
use Rattle.golf_theory.specs.Membership.{any_of}
use Rattle.golf_model.specs.Collections.{is_setting}
use Rattle.golf_reclaim.proofs.finaliser_setters.sets_finalisers.Given as goal

-- none so far
abbrev pub invariant-loop-function : goal.invariant-loop-function
invariant-loop-function l = any_of (λ f. any_of (λ k. is_setting k.instr) f.body)
    (take l.function-index l.code.functions) ≡ false
