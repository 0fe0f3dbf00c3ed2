use Rattle.std.proofs.Common.{ℕ, ◌<◌}
use Rattle.golf_model.specs.Reports.{numbers}
use Rattle.golf_explore.specs.AlikeStates.{CanPairAt}
use Rattle.golf_explore.proofs.alike_states.all_fit.Given as goal

-- the goroutines so far fit their partners
abbrev pub invariant-loop-at : goal.invariant-loop-at
invariant-loop-at l = (i : ℕ) → i < l.at
    → CanPairAt l.state (numbers l.goroutines) l.other (numbers l.others) l.to i
