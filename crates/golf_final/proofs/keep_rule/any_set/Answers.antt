use Rattle.std.proofs.Common.{arith, refl, get_or}
use Rattle.golf_theory.proofs.Lists.{In-get_or}
use Rattle.golf_marks.specs.Flags.{IsSet}
use Rattle.golf_mark.proofs.Gaining.{In-all}
use Rattle.golf_final.proofs.keep_rule.any_set.Goals as goal

pub returns-then-is_set : goal.returns-then-is_set
returns-then-is_set c = (
  λ yes. (
    get_or c.args.nodes.now c.loop-node.node-index 0,
    In-get_or c.args.nodes.now c.loop-node.node-index 0 (omega arith),
    c.is_set.ensures.0 c.if-is_set.true,
  ),
  λ t. refl,
)

pub returns : goal.returns
returns c = (
  λ yes. cc,
  λ t. absurd (In-all (λ p. IsSet c.args.flags.now p → ⊥) c.args.nodes.now c.loop-node.node-index
      (omega arith) c.loop-node.invariant t.0 t.1 t.2),
)
