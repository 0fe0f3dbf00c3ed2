use Rattle.std.proofs.Common.{◌≤◌}
use Rattle.golf_syntax_trees.specs.declared.expressions.Expr.{size-Expr}
use Rattle.golf_syntax_trees.specs.Spines.{left_of, shown, IsSpine, AreNoLarger}
use Rattle.golf_syntax_trees.proofs.left_operands.spine.Given as goal

abbrev pub invariant-loop-left : goal.invariant-loop-left
invariant-loop-left l = record {
  down : IsSpine left_of l.fn.e (shown l.waiting) l.inner;
  within : AreNoLarger size-Expr (size-Expr l.fn.e) (shown l.waiting);
  smaller : size-Expr l.inner ≤ size-Expr l.fn.e;
}

abbrev pub decreases-loop-left : goal.decreases-loop-left
decreases-loop-left l = size-Expr l.inner
