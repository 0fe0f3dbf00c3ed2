use Rattle.std.proofs.Common.{false, take}
use Rattle.golf_theory.specs.Membership.{In}
use Rattle.golf_explore.proofs.dead_goroutines.has_unset.Given as goal

-- no flag so far is false
abbrev pub invariant-loop-flag : goal.invariant-loop-flag
invariant-loop-flag l = In false (take l.flag-index l.flags) → ⊥
