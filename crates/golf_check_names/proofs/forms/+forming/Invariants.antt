use Rattle.std.proofs.Common.{◌≡◌, ◌+◌, ◌*◌, length}
use Rattle.golf_syntax_trees.specs.declared.expressions.Expr.{size-Expr}
use Rattle.golf_syntax_trees.specs.Spines.{shown, risen}
use Rattle.golf_check_types.specs.Judgments.{judge}
use Rattle.golf_check_names.specs.Forms.{without_late}
use Rattle.golf_check_names.specs.Spines.{raised}
use Rattle.golf_check_names.proofs.forms.+forming.Given as goal

-- what waits goes on with what was found
abbrev pub invariant-form-loop-node : goal.invariant-form-loop-node
invariant-form-loop-node l = risen (raised l.line l.scope) (shown l.waiting) (without_late l.operand) ≡ without_late
    (judge l.fn.e l.line l.scope).meaning

abbrev pub decreases-form-loop-node : goal.decreases-form-loop-node
decreases-form-loop-node l = length l.waiting

abbrev pub decreases-whole : goal.decreases-whole
decreases-whole l = 4 * size-Expr l.e.now

abbrev pub decreases-form : goal.decreases-form
decreases-form l = 4 * size-Expr l.e.now + 1

abbrev pub decreases-parens_form : goal.decreases-parens_form
decreases-parens_form l = 4 * size-Expr l.e.now + 2

abbrev pub decreases-value_form : goal.decreases-value_form
decreases-value_form l = 4 * size-Expr l.e.now + 2

abbrev pub decreases-unary_form : goal.decreases-unary_form
decreases-unary_form l = 4 * size-Expr l.e.now + 3
