use Rattle.std.proofs.Common.{◌<◌, ℕ}
use Rattle.std.specs.Prelude.{◌↔◌}
use Rattle.golf_theory.specs.Membership.{In}
use Rattle.golf_final.specs.KeepRule.{Prevents}
use Rattle.golf_final.proofs.keep_rule.preventing.Given as goal

abbrev pub invariant-loop-node : goal.invariant-loop-node
invariant-loop-node l = (p : ℕ) → In p l.nodes ↔ ((p < l.node) × Prevents l.graph l.flags l.sets_finalisers p)
