-- The form of an expression, from the form of its left operand.
use Rattle.std.specs.Prelude.{ℕ}
use Rattle.golf_syntax_trees.specs.declared.expressions.Expr.{Expr, out-Expr}
use Rattle.golf_syntax_trees.specs.declared.expressions.Element.{Element}
use Rattle.golf_syntax_trees.specs.declared.expressions.Expr.TheOpen.{Expr-F, Selector, Index, Call, Binary}
use Rattle.golf_check_types.specs.declared.operands.Operand.{Operand}
use Rattle.golf_check_types.specs.declared.operands.Operand.TheVariants as operand
use Rattle.golf_check_types.specs.declared.scopes.Scope.{Scope}
use Rattle.golf_check_types.specs.Types.{given, element}
use Rattle.golf_check_types.specs.Expressions.{selected_from, value, result_base}
use Rattle.golf_check_names.specs.Forms.{without_late, called_form}

abbrev pub formed_step : Expr-F Expr Element → ℕ → Scope → Operand → Operand
formed_step (Selector e n) l s m = (selected_from l s.file n m).meaning
formed_step (Index a i) l s m = operand.Element (element (given m))
formed_step (Call f xs) l s m = called_form s.file m
formed_step (Binary o a b) l s m = value (result_base o)
formed_step _ l s m = m

-- what an expression with this left operand is
unfoldable pub formed : Expr → ℕ → Scope → Operand → Operand
formed e l s m = formed_step (out-Expr e) l s m

-- the form of an expression whose left operand has this form
abbrev pub raised : ℕ → Scope → Expr → Operand → Operand
raised l s e m = without_late (formed e l s m)
