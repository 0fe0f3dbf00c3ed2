-- The texts of each kind of expression and statement, as equations.
-- For: `expr_texts`, `stmt_texts` (golf_code_of/specs/Texts.antt)
-- By: computing, kind by kind
use Rattle.std.proofs.Common.{◌≡◌, ℕ, List, map, ap, sym, ◌∙◌}
use Rattle.std.specs.Prelude.{Option}
use Rattle.golf_syntax_trees.specs.declared.types.TypeExpr.{TypeExpr}
use Rattle.golf_syntax_trees.specs.declared.expressions.UnaryOperator.{UnaryOperator}
use Rattle.golf_syntax_trees.specs.declared.expressions.BinaryOperator.{BinaryOperator}
use Rattle.golf_syntax_trees.specs.declared.expressions.Expr.{Expr, roll-Expr}
use Rattle.golf_syntax_trees.specs.declared.expressions.Element.{Element}
use Rattle.golf_syntax_trees.specs.declared.expressions.Expr.TheVariants as ex
use Rattle.golf_syntax_trees.specs.declared.expressions.Expr.TheOpen.{Expr-F}
use Rattle.golf_syntax_trees.specs.declared.expressions.Expr.TheOpen as E
use Rattle.golf_syntax_trees.specs.declared.expressions.Expr.TheFolds.{fold-Element, fold-roll-Expr, map-Expr}
use Rattle.golf_syntax_trees.proofs.ExpressionInduction.{fold-elements}
use Rattle.golf_syntax_trees.specs.declared.statements.Simple.{Simple}
use Rattle.golf_syntax_trees.specs.declared.statements.Var.{Var}
use Rattle.golf_syntax_trees.specs.declared.statements.Header.{Header}
use Rattle.golf_syntax_trees.specs.declared.statements.Communication.{Communication}
use Rattle.golf_syntax_trees.specs.declared.statements.Stmt.{Stmt, roll-Stmt}
use Rattle.golf_syntax_trees.specs.declared.statements.Stmt.TheVariants as st
use Rattle.golf_syntax_trees.specs.declared.statements.Clause.{Clause, roll-Clause}
use Rattle.golf_syntax_trees.specs.declared.statements.Clause.TheVariants as cl
use Rattle.golf_syntax_trees.specs.declared.statements.Clause.TheOpen.{Stmt-F, Clause-F}
use Rattle.golf_syntax_trees.specs.declared.statements.Clause.TheOpen as F
use Rattle.golf_syntax_trees.specs.declared.statements.Clause.TheFolds.{fold-Clause, fold-roll-Stmt, fold-roll-Clause}
use Rattle.golf_syntax_trees.specs.declared.statements.Clause.TheFolds.{map-Stmt, map-Clause}
use Rattle.golf_code_of.specs.Table.{Texts}
use Rattle.golf_code_of.specs.Texts.{expr_texts, expr_texts_step, element_texts_step, stmt_texts, stmt_texts_step}
use Rattle.golf_code_of.specs.Texts.{clause_texts_step}

abbrev pub element_texts : Element → Texts
element_texts x = expr_texts x.value

unfoldable pub clause_texts : Clause → Texts
clause_texts = fold-Clause Texts Texts clause_texts_step stmt_texts_step

texts-rolls : (y : Expr-F Expr Element) → expr_texts (roll-Expr y) ≡ expr_texts_step
    (map-Expr Expr Element Texts Texts expr_texts (fold-Element Texts Texts expr_texts_step element_texts_step) y)
unfolding expr_texts
texts-rolls = fold-roll-Expr Texts Texts expr_texts_step element_texts_step

stmt_texts-rolls : (y : Stmt-F Clause Stmt)
    → stmt_texts (roll-Stmt y) ≡ stmt_texts_step (map-Stmt Clause Stmt Texts Texts clause_texts stmt_texts y)
unfolding stmt_texts clause_texts
stmt_texts-rolls = fold-roll-Stmt Texts Texts clause_texts_step stmt_texts_step

clause_texts-rolls : (y : Clause-F Clause Stmt)
    → clause_texts (roll-Clause y) ≡ clause_texts_step (map-Clause Clause Stmt Texts Texts clause_texts stmt_texts y)
unfolding stmt_texts clause_texts
clause_texts-rolls = fold-roll-Clause Texts Texts clause_texts_step stmt_texts_step

pub texts-Integer : (digits : List ℕ) → expr_texts (ex.Integer digits) ≡ expr_texts_step (E.Integer digits)
texts-Integer digits = ap expr_texts (sym (ex.rolls-Integer digits)) ∙ texts-rolls (E.Integer digits)

pub texts-Text : (bytes : List ℕ) → expr_texts (ex.Text bytes) ≡ expr_texts_step (E.Text bytes)
texts-Text bytes = ap expr_texts (sym (ex.rolls-Text bytes)) ∙ texts-rolls (E.Text bytes)

pub texts-Name : (n : List ℕ) → expr_texts (ex.Name n) ≡ expr_texts_step (E.Name n)
texts-Name n = ap expr_texts (sym (ex.rolls-Name n)) ∙ texts-rolls (E.Name n)

pub texts-Parens : (e : Expr) → expr_texts (ex.Parens e) ≡ expr_texts_step (E.Parens (expr_texts e))
texts-Parens e = ap expr_texts (sym (ex.rolls-Parens e)) ∙ texts-rolls (E.Parens e)

pub texts-StructLiteral : (n : List ℕ) (xs : List Element)
    → expr_texts (ex.StructLiteral n xs) ≡ expr_texts_step (E.StructLiteral n (map element_texts xs))
unfolding expr_texts
texts-StructLiteral n xs = ap expr_texts (sym (ex.rolls-StructLiteral n xs)) ∙ texts-rolls (E.StructLiteral n xs)
    ∙ ap (λ ps. expr_texts_step (E.StructLiteral n ps))
    (fold-elements Texts Texts expr_texts_step element_texts_step xs)

pub texts-SyncLiteral : (n : List ℕ) → expr_texts (ex.SyncLiteral n) ≡ expr_texts_step (E.SyncLiteral n)
texts-SyncLiteral n = ap expr_texts (sym (ex.rolls-SyncLiteral n)) ∙ texts-rolls (E.SyncLiteral n)

pub texts-SliceLiteral : (of_type : TypeExpr) (xs : List Expr)
    → expr_texts (ex.SliceLiteral of_type xs) ≡ expr_texts_step (E.SliceLiteral of_type (map expr_texts xs))
texts-SliceLiteral of_type xs = ap expr_texts (sym (ex.rolls-SliceLiteral of_type xs))
    ∙ texts-rolls (E.SliceLiteral of_type xs)

pub texts-EmptyLiteral : expr_texts ex.EmptyLiteral ≡ expr_texts_step E.EmptyLiteral
texts-EmptyLiteral = ap expr_texts (sym ex.rolls-EmptyLiteral) ∙ texts-rolls E.EmptyLiteral

pub texts-Make : (of_type : TypeExpr) → expr_texts (ex.Make of_type) ≡ expr_texts_step (E.Make of_type)
texts-Make of_type = ap expr_texts (sym (ex.rolls-Make of_type)) ∙ texts-rolls (E.Make of_type)

pub texts-MakeSized : (of_type : TypeExpr) (e : Expr)
    → expr_texts (ex.MakeSized of_type e) ≡ expr_texts_step (E.MakeSized of_type (expr_texts e))
texts-MakeSized of_type e = ap expr_texts (sym (ex.rolls-MakeSized of_type e)) ∙ texts-rolls (E.MakeSized of_type e)

pub texts-New : (n : List ℕ) → expr_texts (ex.New n) ≡ expr_texts_step (E.New n)
texts-New n = ap expr_texts (sym (ex.rolls-New n)) ∙ texts-rolls (E.New n)

pub texts-NewSync : (n : List ℕ) → expr_texts (ex.NewSync n) ≡ expr_texts_step (E.NewSync n)
texts-NewSync n = ap expr_texts (sym (ex.rolls-NewSync n)) ∙ texts-rolls (E.NewSync n)

pub texts-Selector : (e : Expr) (n : List ℕ)
    → expr_texts (ex.Selector e n) ≡ expr_texts_step (E.Selector (expr_texts e) n)
texts-Selector e n = ap expr_texts (sym (ex.rolls-Selector e n)) ∙ texts-rolls (E.Selector e n)

pub texts-Index : (a : Expr) (i : Expr) → expr_texts (ex.Index a i) ≡ expr_texts_step
    (E.Index (expr_texts a) (expr_texts i))
texts-Index a i = ap expr_texts (sym (ex.rolls-Index a i)) ∙ texts-rolls (E.Index a i)

pub texts-Call : (f : Expr) (xs : List Expr)
    → expr_texts (ex.Call f xs) ≡ expr_texts_step (E.Call (expr_texts f) (map expr_texts xs))
texts-Call f xs = ap expr_texts (sym (ex.rolls-Call f xs)) ∙ texts-rolls (E.Call f xs)

pub texts-Unary : (o : UnaryOperator) (e : Expr)
    → expr_texts (ex.Unary o e) ≡ expr_texts_step (E.Unary o (expr_texts e))
texts-Unary o e = ap expr_texts (sym (ex.rolls-Unary o e)) ∙ texts-rolls (E.Unary o e)

pub texts-Binary : (o : BinaryOperator) (a : Expr) (b : Expr)
    → expr_texts (ex.Binary o a b) ≡ expr_texts_step (E.Binary o (expr_texts a) (expr_texts b))
texts-Binary o a b = ap expr_texts (sym (ex.rolls-Binary o a b)) ∙ texts-rolls (E.Binary o a b)

pub stmt_texts-Var : (v : Var) → stmt_texts (st.Var v) ≡ stmt_texts_step (F.Var v)
stmt_texts-Var v = ap stmt_texts (sym (st.rolls-Var v)) ∙ stmt_texts-rolls (F.Var v)

pub stmt_texts-Simple : (x : Simple) → stmt_texts (st.Simple x) ≡ stmt_texts_step (F.Simple x)
stmt_texts-Simple x = ap stmt_texts (sym (st.rolls-Simple x)) ∙ stmt_texts-rolls (F.Simple x)

pub stmt_texts-Go : (l : ℕ) (f : Expr) (xs : List Expr) → stmt_texts (st.Go l f xs) ≡ stmt_texts_step (F.Go l f xs)
stmt_texts-Go l f xs = ap stmt_texts (sym (st.rolls-Go l f xs)) ∙ stmt_texts-rolls (F.Go l f xs)

pub stmt_texts-Defer : (l : ℕ) (f : Expr) (xs : List Expr)
    → stmt_texts (st.Defer l f xs) ≡ stmt_texts_step (F.Defer l f xs)
stmt_texts-Defer l f xs = ap stmt_texts (sym (st.rolls-Defer l f xs)) ∙ stmt_texts-rolls (F.Defer l f xs)

pub stmt_texts-Return : (l : ℕ) (e : Option Expr) → stmt_texts (st.Return l e) ≡ stmt_texts_step (F.Return l e)
stmt_texts-Return l e = ap stmt_texts (sym (st.rolls-Return l e)) ∙ stmt_texts-rolls (F.Return l e)

pub stmt_texts-Break : (l : ℕ) → stmt_texts (st.Break l) ≡ stmt_texts_step (F.Break l)
stmt_texts-Break l = ap stmt_texts (sym (st.rolls-Break l)) ∙ stmt_texts-rolls (F.Break l)

pub stmt_texts-Continue : (l : ℕ) → stmt_texts (st.Continue l) ≡ stmt_texts_step (F.Continue l)
stmt_texts-Continue l = ap stmt_texts (sym (st.rolls-Continue l)) ∙ stmt_texts-rolls (F.Continue l)

pub stmt_texts-Block : (l : ℕ) (body : List Stmt)
    → stmt_texts (st.Block l body) ≡ stmt_texts_step (F.Block l (map stmt_texts body))
stmt_texts-Block l body = ap stmt_texts (sym (st.rolls-Block l body)) ∙ stmt_texts-rolls (F.Block l body)

pub stmt_texts-If : (l : ℕ) (first : Option Simple) (test : Expr) (body : List Stmt)
    → stmt_texts (st.If l first test body) ≡ stmt_texts_step (F.If l first test (map stmt_texts body))
stmt_texts-If l first test body = ap stmt_texts (sym (st.rolls-If l first test body))
    ∙ stmt_texts-rolls (F.If l first test body)

pub stmt_texts-IfElse : (l : ℕ) (first : Option Simple) (test : Expr) (body : List Stmt) (otherwise : Stmt)
    → stmt_texts (st.IfElse l first test body otherwise) ≡ stmt_texts_step
    (F.IfElse l first test (map stmt_texts body) (stmt_texts otherwise))
stmt_texts-IfElse l first test body otherwise = ap stmt_texts (sym (st.rolls-IfElse l first test body otherwise))
    ∙ stmt_texts-rolls (F.IfElse l first test body otherwise)

pub stmt_texts-For : (l : ℕ) (h : Header) (body : List Stmt)
    → stmt_texts (st.For l h body) ≡ stmt_texts_step (F.For l h (map stmt_texts body))
stmt_texts-For l h body = ap stmt_texts (sym (st.rolls-For l h body)) ∙ stmt_texts-rolls (F.For l h body)

pub stmt_texts-Select : (l : ℕ) (cs : List Clause)
    → stmt_texts (st.Select l cs) ≡ stmt_texts_step (F.Select l (map clause_texts cs))
stmt_texts-Select l cs = ap stmt_texts (sym (st.rolls-Select l cs)) ∙ stmt_texts-rolls (F.Select l cs)

pub clause_texts-Case : (l : ℕ) (c : Communication) (body : List Stmt)
    → clause_texts (cl.Case l c body) ≡ clause_texts_step (F.Case l c (map stmt_texts body))
clause_texts-Case l c body = ap clause_texts (sym (cl.rolls-Case l c body)) ∙ clause_texts-rolls (F.Case l c body)

pub clause_texts-Default : (l : ℕ) (body : List Stmt)
    → clause_texts (cl.Default l body) ≡ clause_texts_step (F.Default l (map stmt_texts body))
clause_texts-Default l body = ap clause_texts (sym (cl.rolls-Default l body)) ∙ clause_texts-rolls (F.Default l body)

pub ruleset text_equations = (
  texts-Integer,
  texts-Text,
  texts-Name,
  texts-Parens,
  texts-StructLiteral,
  texts-SyncLiteral,
  texts-SliceLiteral,
  texts-EmptyLiteral,
  texts-Make,
  texts-MakeSized,
  texts-New,
  texts-NewSync,
  texts-Selector,
  texts-Index,
  texts-Call,
  texts-Unary,
  texts-Binary,
  stmt_texts-Var,
  stmt_texts-Simple,
  stmt_texts-Go,
  stmt_texts-Defer,
  stmt_texts-Return,
  stmt_texts-Break,
  stmt_texts-Continue,
  stmt_texts-Block,
  stmt_texts-If,
  stmt_texts-IfElse,
  stmt_texts-For,
  stmt_texts-Select,
  clause_texts-Case,
  clause_texts-Default,
)
