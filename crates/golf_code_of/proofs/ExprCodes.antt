-- The code of each kind of expression, as an equation.
-- For: `coded` (golf_code_of/specs/ExpressionCode.antt)
-- By: computing, kind by kind
use Rattle.std.proofs.Common.{◌≡◌, ℕ, List, map, ap, sym, ◌∙◌}
use Rattle.golf_syntax_trees.specs.declared.types.TypeExpr.{TypeExpr}
use Rattle.golf_syntax_trees.specs.declared.expressions.UnaryOperator.{UnaryOperator}
use Rattle.golf_syntax_trees.specs.declared.expressions.BinaryOperator.{BinaryOperator}
use Rattle.golf_syntax_trees.specs.declared.expressions.Expr.{Expr, roll-Expr}
use Rattle.golf_syntax_trees.specs.declared.expressions.Element.{Element}
use Rattle.golf_syntax_trees.specs.declared.expressions.Expr.TheVariants as ex
use Rattle.golf_syntax_trees.specs.declared.expressions.Expr.TheOpen.{Expr-F}
use Rattle.golf_syntax_trees.specs.declared.expressions.Expr.TheOpen as F
use Rattle.golf_syntax_trees.specs.declared.expressions.Expr.TheFolds.{fold-Element, fold-roll-Expr, map-Expr}
use Rattle.golf_syntax_trees.proofs.ExpressionInduction.{fold-element, fold-elements}
use Rattle.golf_code_of.specs.declared.tables.Tables.{Tables}
use Rattle.golf_code_of.specs.ExpressionCode.{Coded, CodedPut, coded, coded_step, element_coded_step}

-- an element of a struct literal
abbrev pub coded_put : Tables → Element → CodedPut
coded_put t x = record { name = x.field; value = coded t x.value }

abbrev pub element_coded : Tables → Element → CodedPut
element_coded t = fold-Element Coded CodedPut (coded_step t) element_coded_step

pub element-coded-is : (t : Tables) (x : Element) → element_coded t x ≡ coded_put t x
unfolding coded
element-coded-is t = fold-element Coded CodedPut (coded_step t) element_coded_step

-- one layer of an expression
abbrev pub coded_layer : Tables → Expr-F Expr Element → Coded
coded_layer t y = coded_step t (map-Expr Expr Element Coded CodedPut (coded t) (element_coded t) y)

pub coded-rolls : (t : Tables) (y : Expr-F Expr Element) → coded t (roll-Expr y) ≡ coded_layer t y
unfolding coded
coded-rolls t = fold-roll-Expr Coded CodedPut (coded_step t) element_coded_step

pub coded-Integer : (t : Tables) (digits : List ℕ) → coded t (ex.Integer digits) ≡ coded_step t (F.Integer digits)
coded-Integer t digits = ap (coded t) (sym (ex.rolls-Integer digits)) ∙ coded-rolls t (F.Integer digits)

pub coded-Text : (t : Tables) (bytes : List ℕ) → coded t (ex.Text bytes) ≡ coded_step t (F.Text bytes)
coded-Text t bytes = ap (coded t) (sym (ex.rolls-Text bytes)) ∙ coded-rolls t (F.Text bytes)

pub coded-Name : (t : Tables) (n : List ℕ) → coded t (ex.Name n) ≡ coded_step t (F.Name n)
coded-Name t n = ap (coded t) (sym (ex.rolls-Name n)) ∙ coded-rolls t (F.Name n)

pub coded-Parens : (t : Tables) (e : Expr) → coded t (ex.Parens e) ≡ coded_step t (F.Parens (coded t e))
coded-Parens t e = ap (coded t) (sym (ex.rolls-Parens e)) ∙ coded-rolls t (F.Parens e)

pub coded-StructLiteral : (t : Tables) (n : List ℕ) (xs : List Element)
    → coded t (ex.StructLiteral n xs) ≡ coded_step t (F.StructLiteral n (map (coded_put t) xs))
unfolding coded
coded-StructLiteral t n xs = ap (coded t) (sym (ex.rolls-StructLiteral n xs)) ∙ coded-rolls t (F.StructLiteral n xs)
    ∙ ap (λ ps. coded_step t (F.StructLiteral n ps)) (fold-elements Coded CodedPut (coded_step t) element_coded_step xs)

pub coded-SyncLiteral : (t : Tables) (n : List ℕ) → coded t (ex.SyncLiteral n) ≡ coded_step t (F.SyncLiteral n)
coded-SyncLiteral t n = ap (coded t) (sym (ex.rolls-SyncLiteral n)) ∙ coded-rolls t (F.SyncLiteral n)

pub coded-SliceLiteral : (t : Tables) (of_type : TypeExpr) (xs : List Expr)
    → coded t (ex.SliceLiteral of_type xs) ≡ coded_step t (F.SliceLiteral of_type (map (coded t) xs))
coded-SliceLiteral t of_type xs = ap (coded t) (sym (ex.rolls-SliceLiteral of_type xs))
    ∙ coded-rolls t (F.SliceLiteral of_type xs)

pub coded-EmptyLiteral : (t : Tables) → coded t ex.EmptyLiteral ≡ coded_step t F.EmptyLiteral
coded-EmptyLiteral t = ap (coded t) (sym ex.rolls-EmptyLiteral) ∙ coded-rolls t F.EmptyLiteral

pub coded-Make : (t : Tables) (of_type : TypeExpr) → coded t (ex.Make of_type) ≡ coded_step t (F.Make of_type)
coded-Make t of_type = ap (coded t) (sym (ex.rolls-Make of_type)) ∙ coded-rolls t (F.Make of_type)

pub coded-MakeSized : (t : Tables) (of_type : TypeExpr) (e : Expr)
    → coded t (ex.MakeSized of_type e) ≡ coded_step t (F.MakeSized of_type (coded t e))
coded-MakeSized t of_type e = ap (coded t) (sym (ex.rolls-MakeSized of_type e)) ∙ coded-rolls t (F.MakeSized of_type e)

pub coded-New : (t : Tables) (n : List ℕ) → coded t (ex.New n) ≡ coded_step t (F.New n)
coded-New t n = ap (coded t) (sym (ex.rolls-New n)) ∙ coded-rolls t (F.New n)

pub coded-NewSync : (t : Tables) (n : List ℕ) → coded t (ex.NewSync n) ≡ coded_step t (F.NewSync n)
coded-NewSync t n = ap (coded t) (sym (ex.rolls-NewSync n)) ∙ coded-rolls t (F.NewSync n)

pub coded-Selector : (t : Tables) (e : Expr) (n : List ℕ)
    → coded t (ex.Selector e n) ≡ coded_step t (F.Selector (coded t e) n)
coded-Selector t e n = ap (coded t) (sym (ex.rolls-Selector e n)) ∙ coded-rolls t (F.Selector e n)

pub coded-Index : (t : Tables) (a : Expr) (i : Expr)
    → coded t (ex.Index a i) ≡ coded_step t (F.Index (coded t a) (coded t i))
coded-Index t a i = ap (coded t) (sym (ex.rolls-Index a i)) ∙ coded-rolls t (F.Index a i)

pub coded-Call : (t : Tables) (f : Expr) (xs : List Expr)
    → coded t (ex.Call f xs) ≡ coded_step t (F.Call (coded t f) (map (coded t) xs))
coded-Call t f xs = ap (coded t) (sym (ex.rolls-Call f xs)) ∙ coded-rolls t (F.Call f xs)

pub coded-Unary : (t : Tables) (o : UnaryOperator) (e : Expr)
    → coded t (ex.Unary o e) ≡ coded_step t (F.Unary o (coded t e))
coded-Unary t o e = ap (coded t) (sym (ex.rolls-Unary o e)) ∙ coded-rolls t (F.Unary o e)

pub coded-Binary : (t : Tables) (o : BinaryOperator) (a : Expr) (b : Expr)
    → coded t (ex.Binary o a b) ≡ coded_step t (F.Binary o (coded t a) (coded t b))
coded-Binary t o a b = ap (coded t) (sym (ex.rolls-Binary o a b)) ∙ coded-rolls t (F.Binary o a b)

pub ruleset expression_codes = (
  coded-Integer,
  coded-Text,
  coded-Name,
  coded-Parens,
  coded-StructLiteral,
  coded-SyncLiteral,
  coded-SliceLiteral,
  coded-EmptyLiteral,
  coded-Make,
  coded-MakeSized,
  coded-New,
  coded-NewSync,
  coded-Selector,
  coded-Index,
  coded-Call,
  coded-Unary,
  coded-Binary,
)
