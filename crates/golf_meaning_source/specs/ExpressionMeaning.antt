-- What an expression does, beside its judgment: one equation for each construct.
use Rattle.std.specs.Prelude.{ℕ, List, [], ◌∷◌, map, Option}
use Rattle.golf_syntax_trees.specs.declared.expressions.Expr.{Expr}
use Rattle.golf_syntax_trees.specs.declared.expressions.Expr.TheOpen.{Expr-F, Element-F, Integer, Text, Name, Parens}
use Rattle.golf_syntax_trees.specs.declared.expressions.Expr.TheOpen.{StructLiteral, SyncLiteral, SliceLiteral}
use Rattle.golf_syntax_trees.specs.declared.expressions.Expr.TheOpen.{EmptyLiteral, Make, MakeSized, New, NewSync}
use Rattle.golf_syntax_trees.specs.declared.expressions.Expr.TheOpen.{Selector, Index, Call, Unary, Binary}
use Rattle.golf_syntax_trees.specs.declared.expressions.Expr.TheFolds.{fold-Expr, map-Expr}
use Rattle.golf_data.specs.declared.value.Value.{Value}
use Rattle.golf_check_types.specs.declared.types.Layer.TheVariants as layer
use Rattle.golf_check_types.specs.declared.operands.Operand.{Operand}
use Rattle.golf_check_types.specs.declared.scopes.Scope.{Scope}
use Rattle.golf_check_types.specs.Types.{with_layer}
use Rattle.golf_check_types.specs.Names.{is_blank}
use Rattle.golf_check_types.specs.Scopes.{or_else, file_operand, predeclared, meaning}
use Rattle.golf_check_types.specs.Written.{write_at, pointer_to, made_base}
use Rattle.golf_check_types.specs.Expressions.{value_from, selected_from, unary_judged, index_judged}
use Rattle.golf_check_types.specs.Calls.{call_judged}
use Rattle.golf_check_types.specs.Judgments.{Judge, Put, judge_step}
use Rattle.golf_code_of.specs.Table.{text_number}
use Rattle.golf_code_of.specs.declared.tables.Tables.{Tables}
use Rattle.golf_meaning_source.specs.Names.{Env}
use Rattle.golf_meaning_source.specs.Operations.{Taking, both, then_do}
use Rattle.golf_meaning_source.specs.Exprs as X
use Rattle.golf_meaning_source.specs.Exprs.{Does, Location, ArgumentMeaning, only, in_place, constant_gives, int_value}

-- an expression on a line, in a scope
pub record Meant : Type 0 where
  pub judge : Judge
  pub does : ℕ → Scope → Does

pub record MeantPut : Type 0 where
  pub name : List ℕ
  pub value : Meant

abbrev pub put_judge : MeantPut → Put
put_judge x = record { name = x.name; judge = x.value.judge }

abbrev pub argument : ℕ → Scope → Env → Meant → ArgumentMeaning
argument l s env x = record { meaning = (x.judge l s).meaning; value = (x.does l s).value env }

-- a name that is no local
abbrev pub outer : Scope → List ℕ → Option Operand
outer s n = or_else (file_operand s.file n) (predeclared s.file.imports n)

abbrev pub element_meant_step : Element-F Meant MeantPut → MeantPut
element_meant_step x = record { name = x.field; value = x.value }

module _ (taking : Taking) where
  abbrev pub does_step : Tables → Expr-F Meant MeantPut → ℕ → Scope → Does
  does_step t (Integer digits) l s = only (constant_gives (int_value (value_from 0 digits) ∷ []))
  does_step t (Text bytes) l s = only (constant_gives (Value.Text (text_number t.texts bytes) ∷ []))
  does_step t (Name n) l s = X.name_does taking t (is_blank n) n (outer s n)
  does_step t (Parens e) l s = e.does l s
  does_step t (StructLiteral n xs) l s = only
      (λ env. X.struct_literal taking s.file (pointer_to (meaning s n)) (map (λ x. x.name) xs)
      (map (λ x. (x.value.does l s).value env) xs))
  does_step t (SyncLiteral n) l s = only (λ env. X.new_sync taking (made_base n))
  does_step t (SliceLiteral of_type xs) l s =
      only (λ env. X.slice_literal taking (with_layer layer.Slice (write_at l s of_type).type)
      (map (λ x. (x.does l s).value env) xs))
  does_step t EmptyLiteral l s = only (constant_gives (Value.Unit ∷ []))
  does_step t (Make of_type) l s = only (λ env. X.made taking (write_at l s of_type).type (int_value 0 ∷ []))
  does_step t (MakeSized of_type e) l s =
      only (λ env. then_do ((e.does l s).value env) (X.made taking (write_at l s of_type).type))
  does_step t (New n) l s = only (λ env. X.new_struct taking (pointer_to (meaning s n)))
  does_step t (NewSync n) l s = only (λ env. X.new_sync taking (made_base n))
  does_step t (Selector e n) l s = X.selector taking (selected_from l s.file n (e.judge l s).meaning).meaning
      (λ env. (e.does l s).value env)
  does_step t (Index a i) l s = in_place taking
      (λ env. Location.Element (X.element_type (index_judged l (a.judge l s) (i.judge l s)).meaning))
      (λ env. both ((a.does l s).value env) ((i.does l s).value env))
  does_step t (Call f xs) l s = only (λ env. X.call taking (f.judge l s).meaning
      (call_judged l s (f.judge l s) (map (λ x. x.judge l s) xs)).meaning ((f.does l s).value env)
      (map (argument l s env) xs))
  does_step t (Unary o e) l s = only (λ env. then_do ((e.does l s).value env)
      (X.unary_does taking o (unary_judged l s o (e.judge l s)).meaning))
  does_step t (Binary o a b) l s = only (λ env. X.binary_does o ((a.does l s).value env) ((b.does l s).value env))

  abbrev pub meant_step : Tables → Expr-F Meant MeantPut → Meant
  meant_step t y = record {
    judge = judge_step (map-Expr Meant MeantPut Judge Put (λ x. x.judge) put_judge y);
    does = does_step t y;
  }

  unfoldable pub meant : Tables → Expr → Meant
  meant t = fold-Expr Meant MeantPut (meant_step t) element_meant_step
