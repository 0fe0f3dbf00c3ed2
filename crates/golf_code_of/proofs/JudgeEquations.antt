-- What each kind of expression is, as an equation.
-- For: `judge` (golf_check_types/specs/Judgments.antt)
-- By: computing, kind by kind
use Rattle.std.proofs.Common.{◌≡◌, ℕ, List, map, ap, sym, ◌∙◌}
use Rattle.golf_syntax_trees.specs.declared.types.TypeExpr.{TypeExpr}
use Rattle.golf_syntax_trees.specs.declared.expressions.UnaryOperator.{UnaryOperator}
use Rattle.golf_syntax_trees.specs.declared.expressions.BinaryOperator.{BinaryOperator}
use Rattle.golf_syntax_trees.specs.declared.expressions.Expr.{Expr, roll-Expr}
use Rattle.golf_syntax_trees.specs.declared.expressions.Element.{Element}
use Rattle.golf_syntax_trees.specs.declared.expressions.Expr.TheVariants as ex
use Rattle.golf_syntax_trees.specs.declared.expressions.Expr.TheOpen.{Expr-F}
use Rattle.golf_syntax_trees.specs.declared.expressions.Expr.TheOpen as F
use Rattle.golf_syntax_trees.specs.declared.expressions.Expr.TheFolds.{fold-Element, fold-roll-Expr, map-Expr}
use Rattle.golf_syntax_trees.proofs.ExpressionInduction.{fold-element, fold-elements}
use Rattle.golf_check_types.specs.Judgments.{Judge, Put, judge, judge_step, element_step}

-- an element of a struct literal
abbrev pub put_of : Element → Put
put_of x = record { name = x.field; judge = judge x.value }

abbrev pub element_judge : Element → Put
element_judge = fold-Element Judge Put judge_step element_step

pub element-judge-is : (x : Element) → element_judge x ≡ put_of x
unfolding judge
element-judge-is = fold-element Judge Put judge_step element_step

-- one layer of an expression
abbrev pub judge_layer : Expr-F Expr Element → Judge
judge_layer y = judge_step (map-Expr Expr Element Judge Put judge element_judge y)

pub judge-rolls : (y : Expr-F Expr Element) → judge (roll-Expr y) ≡ judge_layer y
unfolding judge
judge-rolls = fold-roll-Expr Judge Put judge_step element_step

pub judge-Integer : (digits : List ℕ) → judge (ex.Integer digits) ≡ judge_step (F.Integer digits)
judge-Integer digits = ap judge (sym (ex.rolls-Integer digits)) ∙ judge-rolls (F.Integer digits)

pub judge-Text : (bytes : List ℕ) → judge (ex.Text bytes) ≡ judge_step (F.Text bytes)
judge-Text bytes = ap judge (sym (ex.rolls-Text bytes)) ∙ judge-rolls (F.Text bytes)

pub judge-Name : (n : List ℕ) → judge (ex.Name n) ≡ judge_step (F.Name n)
judge-Name n = ap judge (sym (ex.rolls-Name n)) ∙ judge-rolls (F.Name n)

pub judge-Parens : (e : Expr) → judge (ex.Parens e) ≡ judge_step (F.Parens (judge e))
judge-Parens e = ap judge (sym (ex.rolls-Parens e)) ∙ judge-rolls (F.Parens e)

pub judge-StructLiteral : (n : List ℕ) (xs : List Element)
    → judge (ex.StructLiteral n xs) ≡ judge_step (F.StructLiteral n (map put_of xs))
unfolding judge
judge-StructLiteral n xs = ap judge (sym (ex.rolls-StructLiteral n xs)) ∙ judge-rolls (F.StructLiteral n xs)
    ∙ ap (λ ps. judge_step (F.StructLiteral n ps)) (fold-elements Judge Put judge_step element_step xs)

pub judge-SyncLiteral : (n : List ℕ) → judge (ex.SyncLiteral n) ≡ judge_step (F.SyncLiteral n)
judge-SyncLiteral n = ap judge (sym (ex.rolls-SyncLiteral n)) ∙ judge-rolls (F.SyncLiteral n)

pub judge-SliceLiteral : (of_type : TypeExpr) (xs : List Expr)
    → judge (ex.SliceLiteral of_type xs) ≡ judge_step (F.SliceLiteral of_type (map judge xs))
judge-SliceLiteral of_type xs = ap judge (sym (ex.rolls-SliceLiteral of_type xs))
    ∙ judge-rolls (F.SliceLiteral of_type xs)

pub judge-EmptyLiteral : judge ex.EmptyLiteral ≡ judge_step F.EmptyLiteral
judge-EmptyLiteral = ap judge (sym ex.rolls-EmptyLiteral) ∙ judge-rolls F.EmptyLiteral

pub judge-Make : (of_type : TypeExpr) → judge (ex.Make of_type) ≡ judge_step (F.Make of_type)
judge-Make of_type = ap judge (sym (ex.rolls-Make of_type)) ∙ judge-rolls (F.Make of_type)

pub judge-MakeSized : (of_type : TypeExpr) (e : Expr)
    → judge (ex.MakeSized of_type e) ≡ judge_step (F.MakeSized of_type (judge e))
judge-MakeSized of_type e = ap judge (sym (ex.rolls-MakeSized of_type e)) ∙ judge-rolls (F.MakeSized of_type e)

pub judge-New : (n : List ℕ) → judge (ex.New n) ≡ judge_step (F.New n)
judge-New n = ap judge (sym (ex.rolls-New n)) ∙ judge-rolls (F.New n)

pub judge-NewSync : (n : List ℕ) → judge (ex.NewSync n) ≡ judge_step (F.NewSync n)
judge-NewSync n = ap judge (sym (ex.rolls-NewSync n)) ∙ judge-rolls (F.NewSync n)

pub judge-Selector : (e : Expr) (n : List ℕ) → judge (ex.Selector e n) ≡ judge_step (F.Selector (judge e) n)
judge-Selector e n = ap judge (sym (ex.rolls-Selector e n)) ∙ judge-rolls (F.Selector e n)

pub judge-Index : (a : Expr) (i : Expr) → judge (ex.Index a i) ≡ judge_step (F.Index (judge a) (judge i))
judge-Index a i = ap judge (sym (ex.rolls-Index a i)) ∙ judge-rolls (F.Index a i)

pub judge-Call : (f : Expr) (xs : List Expr) → judge (ex.Call f xs) ≡ judge_step (F.Call (judge f) (map judge xs))
judge-Call f xs = ap judge (sym (ex.rolls-Call f xs)) ∙ judge-rolls (F.Call f xs)

pub judge-Unary : (o : UnaryOperator) (e : Expr) → judge (ex.Unary o e) ≡ judge_step (F.Unary o (judge e))
judge-Unary o e = ap judge (sym (ex.rolls-Unary o e)) ∙ judge-rolls (F.Unary o e)

pub judge-Binary : (o : BinaryOperator) (a : Expr) (b : Expr)
    → judge (ex.Binary o a b) ≡ judge_step (F.Binary o (judge a) (judge b))
judge-Binary o a b = ap judge (sym (ex.rolls-Binary o a b)) ∙ judge-rolls (F.Binary o a b)

pub ruleset judgments = (
  judge-Integer,
  judge-Text,
  judge-Name,
  judge-Parens,
  judge-StructLiteral,
  judge-SyncLiteral,
  judge-SliceLiteral,
  judge-EmptyLiteral,
  judge-Make,
  judge-MakeSized,
  judge-New,
  judge-NewSync,
  judge-Selector,
  judge-Index,
  judge-Call,
  judge-Unary,
  judge-Binary,
)
