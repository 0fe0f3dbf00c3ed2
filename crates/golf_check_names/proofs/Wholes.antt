-- What the answer for an expression with a list of parts is.
-- For: `form`, src/forms.rt; `AnswersOperand`, specs/Forms.antt
-- By: equations of what the expression is; no induction
use Rattle.std.proofs.Common.{◌≡◌, ℕ, List, sym, ap, subst, ◌∙◌}
use Rattle.std.specs.Prelude.{Result}
use Rattle.golf_base.specs.declared.Memory.{Memory}
use Rattle.golf_syntax_trees.specs.declared.types.TypeExpr.{TypeExpr}
use Rattle.golf_syntax_trees.specs.declared.expressions.Expr.{Expr}
use Rattle.golf_syntax_trees.specs.declared.expressions.Element.{Element}
use Rattle.golf_syntax_trees.specs.declared.expressions.Expr.TheVariants as ex
use Rattle.golf_check_types.specs.declared.types.Layer.TheVariants as layer
use Rattle.golf_check_types.specs.declared.operands.Operand.{Operand}
use Rattle.golf_check_types.specs.declared.operands.Operand.TheVariants as operand
use Rattle.golf_check_types.specs.declared.scopes.Scope.{Scope}
use Rattle.golf_check_types.specs.Types.{with_layer}
use Rattle.golf_check_types.specs.Scopes.{meaning}
use Rattle.golf_check_types.specs.Written.{write, pointer_to}
use Rattle.golf_check_types.specs.Expressions.{pointer_value}
use Rattle.golf_check_types.specs.Judgments.{judge}
use Rattle.golf_check_types.proofs.JudgeLaws.{judge-SliceLiteral, judge-StructLiteral}
use Rattle.golf_check_names.specs.Forms.{AnswersOperand}

module _ (r : Result Operand Memory) (l : ℕ) (s : Scope) (e : Expr) where
  same_form : (i j : Operand) → i ≡ j → AnswersOperand r i → AnswersOperand r j
  same_form i j p h = subst (AnswersOperand r) p h

  pub slice_forms : (t u : TypeExpr) (xs : List Expr) → e ≡ ex.SliceLiteral t xs → u ≡ t
      → AnswersOperand r (operand.Value (with_layer layer.Slice (write u l s).type))
      → AnswersOperand r (judge e l s).meaning
  slice_forms t u xs is same h =
      same_form (operand.Value (with_layer layer.Slice (write u l s).type)) (judge e l s).meaning
      (ap (λ k. operand.Value (with_layer layer.Slice (write k l s).type)) same
      ∙ sym (ap (λ k. (judge k l s).meaning) is ∙ ap (λ j. j.meaning) (judge-SliceLiteral t xs l s))) h

  pub struct_forms : (n m : List ℕ) (xs : List Element) → e ≡ ex.StructLiteral n xs → m ≡ n
      → AnswersOperand r (pointer_value (pointer_to (meaning s m))) → AnswersOperand r (judge e l s).meaning
  struct_forms n m xs is same h =
      same_form (pointer_value (pointer_to (meaning s m))) (judge e l s).meaning
      (ap (λ k. pointer_value (pointer_to (meaning s k))) same
      ∙ sym (ap (λ k. (judge k l s).meaning) is ∙ ap (λ j. j.meaning) (judge-StructLiteral n xs l s))) h
