use Rattle.golf_syntax_trees.specs.declared.expressions.Expr.{size-Expr}
use Rattle.golf_code_expressions.specs.Spines.{Descended}
use Rattle.golf_code_expressions.proofs.expressions.descend.Given as goal

abbrev pub invariant-down : goal.invariant-down
invariant-down l = Descended l.fn.e l.fn.writer l.waiting l.inner l.writer

abbrev pub decreases-down : goal.decreases-down
decreases-down l = size-Expr l.inner
