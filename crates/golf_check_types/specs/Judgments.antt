-- The judgment of an expression on a line, in a scope, with one equation for each construct: the parts from left to
-- right, then the whole, with the rules in rising order.
use Rattle.std.specs.Prelude.{◌≡◌, ℕ, Result, List, [], map}
use Rattle.golf_syntax_trees.specs.declared.expressions.Expr.{Expr}
use Rattle.golf_syntax_trees.specs.declared.expressions.Element.{Element}
use Rattle.golf_syntax_trees.specs.declared.expressions.Expr.TheOpen.{Expr-F, Element-F, Integer, Text, Name, Parens}
use Rattle.golf_syntax_trees.specs.declared.expressions.Expr.TheOpen.{StructLiteral, SyncLiteral, SliceLiteral}
use Rattle.golf_syntax_trees.specs.declared.expressions.Expr.TheOpen.{EmptyLiteral, Make, MakeSized, New, NewSync}
use Rattle.golf_syntax_trees.specs.declared.expressions.Expr.TheOpen.{Selector, Index, Call, Unary, Binary}
use Rattle.golf_syntax_trees.specs.declared.expressions.Expr.TheFolds.{fold-Expr}
use Rattle.golf_check_types.specs.declared.fault.TypeFault.{TypeFault}
use Rattle.golf_check_types.specs.declared.types.Layer.TheVariants as layer
use Rattle.golf_check_types.specs.declared.types.Base.TheVariants as base
use Rattle.golf_check_types.specs.declared.operands.Operand.{Operand}
use Rattle.golf_check_types.specs.declared.scopes.Scope.{Scope}
use Rattle.golf_check_types.specs.Faults.{AnswersOrFault}
use Rattle.golf_check_types.specs.Types.{with_layer}
use Rattle.golf_check_types.specs.Scopes.{meaning}
use Rattle.golf_check_types.specs.Written.{write_at, pointer_to}
use Rattle.golf_check_types.specs.Expressions.{Judged, value, leaf, named, in_parens, integer, made_sync, made_struct}
use Rattle.golf_check_types.specs.Expressions.{struct_literal, slice_literal, made, made_sized, selector, unary_judged}
use Rattle.golf_check_types.specs.Expressions.{binary_judged, index_judged}
use Rattle.golf_check_types.specs.Calls.{call_judged}

abbrev pub Judge : Type 0
Judge = ℕ → Scope → Judged

-- the name of a field, and the value for it
pub record Put : Type 0 where
  pub name : List ℕ
  pub judge : Judge

abbrev pub judge_step : Expr-F Judge Put → Judge
judge_step (Integer digits) l s = integer l digits
judge_step (Text bytes) l s = leaf (value base.Text) []
judge_step (Name n) l s = named l s n
judge_step (Parens e) l s = in_parens (e l s)
judge_step (StructLiteral n xs) l s = struct_literal l s.file (pointer_to (meaning s n)) (map (λ x. x.name) xs)
    (map (λ x. x.judge l s) xs)
judge_step (SyncLiteral n) l s = made_sync l s n
judge_step (SliceLiteral t xs) l s = slice_literal l (write_at l s t) (with_layer layer.Slice (write_at l s t).type)
    (map (λ x. x l s) xs)
judge_step EmptyLiteral l s = leaf (value base.Unit) []
judge_step (Make t) l s = made l (write_at l s t)
judge_step (MakeSized t e) l s = made_sized l (write_at l s t) (e l s)
judge_step (New n) l s = made_struct l (pointer_to (meaning s n))
judge_step (NewSync n) l s = made_sync l s n
judge_step (Selector e n) l s = selector l s n (e l s)
judge_step (Index a i) l s = index_judged l (a l s) (i l s)
judge_step (Call f xs) l s = call_judged l s (f l s) (map (λ x. x l s) xs)
judge_step (Unary o e) l s = unary_judged l s o (e l s)
judge_step (Binary o a b) l s = binary_judged l o (a l s) (b l s)

abbrev pub element_step : Element-F Judge Put → Put
element_step x = record { name = x.field; judge = x.value }

unfoldable pub judge : Expr → Judge
judge = fold-Expr Judge Put judge_step element_step

abbrev pub judge_at : ℕ → Scope → Expr → Judged
judge_at l s e = judge e l s

-- the judgment of the value for a field
abbrev pub value_at : ℕ → Scope → Element → Judged
value_at l s x = judge x.value l s

-- The clause of a call that judges a construct from its judged parts: an answer comes only if no rule is broken.
abbrev pub AnswersJudged : Result Operand TypeFault → Judged → Type 0
AnswersJudged result j = AnswersOrFault result j.faults (λ m. m ≡ j.meaning)
