use Rattle.std.proofs.Common.{◌≤◌}
use Rattle.golf_syntax_trees.specs.declared.expressions.Expr.{size-Expr}
use Rattle.golf_syntax_trees.proofs.+expression.Given as goal

abbrev pub invariant-expressions::Expr::drop-loop-self : goal.invariant-expressions::Expr::drop-loop-self
invariant-expressions::Expr::drop-loop-self l = size-Expr l.self ≤ size-Expr l.fn.self
