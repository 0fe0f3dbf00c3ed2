use Rattle.std.proofs.Common.{◌+◌, ◌*◌}
use Rattle.golf_syntax_trees.specs.declared.expressions.Expr.{size-Expr}
use Rattle.golf_tour.proofs.expressions.+telling.Given as goal

abbrev pub decreases-tell_expr : goal.decreases-tell_expr
decreases-tell_expr l = 8 * size-Expr l.e.now

abbrev pub decreases-tell_exprs : goal.decreases-tell_exprs
decreases-tell_exprs l = 8 * goal.size-tell_exprs l + 1
