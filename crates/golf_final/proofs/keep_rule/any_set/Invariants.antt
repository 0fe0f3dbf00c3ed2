use Rattle.std.proofs.Common.{◌<◌, ℕ, get_or}
use Rattle.golf_marks.specs.Flags.{IsSet}
use Rattle.golf_final.proofs.keep_rule.any_set.Given as goal

abbrev pub invariant-loop-node : goal.invariant-loop-node
invariant-loop-node l = (k : ℕ) → k < l.node-index → IsSet l.flags (get_or l.nodes k 0) → ⊥
