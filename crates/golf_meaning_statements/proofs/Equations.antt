-- What each kind of expression and of statement means, as an equation.
-- For: `meant`, golf_meaning_source/specs/ExpressionMeaning.antt; `step`, golf_meaning_statements/specs/Statements.antt
-- By: computing, kind by kind
use Rattle.std.proofs.Common.{◌≡◌, ℕ, List, map, Option, ap, sym, ◌∙◌}
use Rattle.golf_syntax_trees.specs.declared.types.TypeExpr.{TypeExpr}
use Rattle.golf_syntax_trees.specs.declared.expressions.UnaryOperator.{UnaryOperator}
use Rattle.golf_syntax_trees.specs.declared.expressions.BinaryOperator.{BinaryOperator}
use Rattle.golf_syntax_trees.specs.declared.expressions.Expr.{Expr}
use Rattle.golf_syntax_trees.specs.declared.expressions.Element.{Element}
use Rattle.golf_syntax_trees.specs.declared.expressions.Expr.TheVariants as ex
use Rattle.golf_syntax_trees.specs.declared.expressions.Expr.TheOpen as E
use Rattle.golf_syntax_trees.proofs.ExpressionInduction.{fold-elements}
use Rattle.golf_syntax_trees.specs.declared.statements.Var.{Var}
use Rattle.golf_syntax_trees.specs.declared.statements.Simple.{Simple}
use Rattle.golf_syntax_trees.specs.declared.statements.Header.{Header}
use Rattle.golf_syntax_trees.specs.declared.statements.Communication.{Communication}
use Rattle.golf_syntax_trees.specs.declared.statements.Stmt.{Stmt}
use Rattle.golf_syntax_trees.specs.declared.statements.Stmt.TheVariants as st
use Rattle.golf_syntax_trees.specs.declared.statements.Clause.{Clause}
use Rattle.golf_syntax_trees.specs.declared.statements.Clause.TheVariants as cl
use Rattle.golf_syntax_trees.specs.declared.statements.Clause.TheOpen as F
use Rattle.golf_code_of.specs.declared.tables.Tables.{Tables}
use Rattle.golf_meaning_source.specs.ExpressionMeaning.{Meant, MeantPut, meant, meant_step, element_meant_step}
use Rattle.golf_meaning_source.proofs.Meanings.{meant_put, meant-rolls}
use Rattle.golf_meaning_statements.specs.Statements.{step, step_step, clause_step, clause_step_step}
use Rattle.golf_meaning_statements.proofs.Stmts.{step-rolls, clause-rolls}
use Rattle.golf_meaning_source.specs.Operations.{Taking}

module _ (taking : Taking) where
  pub meant-Integer : (t : Tables) (digits : List ℕ)
      → meant taking t (ex.Integer digits) ≡ meant_step taking t (E.Integer digits)
  meant-Integer t digits = ap (meant taking t) (sym (ex.rolls-Integer digits)) ∙ meant-rolls taking t (E.Integer digits)

  pub meant-Text : (t : Tables) (bytes : List ℕ) → meant taking t (ex.Text bytes) ≡ meant_step taking t (E.Text bytes)
  meant-Text t bytes = ap (meant taking t) (sym (ex.rolls-Text bytes)) ∙ meant-rolls taking t (E.Text bytes)

  pub meant-Name : (t : Tables) (n : List ℕ) → meant taking t (ex.Name n) ≡ meant_step taking t (E.Name n)
  meant-Name t n = ap (meant taking t) (sym (ex.rolls-Name n)) ∙ meant-rolls taking t (E.Name n)

  pub meant-Parens : (t : Tables) (e : Expr)
      → meant taking t (ex.Parens e) ≡ meant_step taking t (E.Parens (meant taking t e))
  meant-Parens t e = ap (meant taking t) (sym (ex.rolls-Parens e)) ∙ meant-rolls taking t (E.Parens e)

  pub meant-StructLiteral : (t : Tables) (n : List ℕ) (xs : List Element)
      → meant taking t (ex.StructLiteral n xs) ≡ meant_step taking t (E.StructLiteral n (map (meant_put taking t) xs))
  unfolding meant
  meant-StructLiteral t n xs = ap (meant taking t) (sym (ex.rolls-StructLiteral n xs))
      ∙ meant-rolls taking t (E.StructLiteral n xs)
      ∙ ap (λ ps. meant_step taking t (E.StructLiteral n ps))
      (fold-elements Meant MeantPut (meant_step taking t) element_meant_step xs)

  pub meant-SyncLiteral : (t : Tables) (n : List ℕ)
      → meant taking t (ex.SyncLiteral n) ≡ meant_step taking t (E.SyncLiteral n)
  meant-SyncLiteral t n = ap (meant taking t) (sym (ex.rolls-SyncLiteral n)) ∙ meant-rolls taking t (E.SyncLiteral n)

  pub meant-SliceLiteral : (t : Tables) (of_type : TypeExpr) (xs : List Expr)
      → meant taking t (ex.SliceLiteral of_type xs) ≡ meant_step taking t
      (E.SliceLiteral of_type (map (meant taking t) xs))
  meant-SliceLiteral t of_type xs = ap (meant taking t) (sym (ex.rolls-SliceLiteral of_type xs))
      ∙ meant-rolls taking t (E.SliceLiteral of_type xs)

  pub meant-EmptyLiteral : (t : Tables) → meant taking t ex.EmptyLiteral ≡ meant_step taking t E.EmptyLiteral
  meant-EmptyLiteral t = ap (meant taking t) (sym ex.rolls-EmptyLiteral) ∙ meant-rolls taking t E.EmptyLiteral

  pub meant-Make : (t : Tables) (of_type : TypeExpr)
      → meant taking t (ex.Make of_type) ≡ meant_step taking t (E.Make of_type)
  meant-Make t of_type = ap (meant taking t) (sym (ex.rolls-Make of_type)) ∙ meant-rolls taking t (E.Make of_type)

  pub meant-MakeSized : (t : Tables) (of_type : TypeExpr) (e : Expr)
      → meant taking t (ex.MakeSized of_type e) ≡ meant_step taking t (E.MakeSized of_type (meant taking t e))
  meant-MakeSized t of_type e = ap (meant taking t) (sym (ex.rolls-MakeSized of_type e))
      ∙ meant-rolls taking t (E.MakeSized of_type e)

  pub meant-New : (t : Tables) (n : List ℕ) → meant taking t (ex.New n) ≡ meant_step taking t (E.New n)
  meant-New t n = ap (meant taking t) (sym (ex.rolls-New n)) ∙ meant-rolls taking t (E.New n)

  pub meant-NewSync : (t : Tables) (n : List ℕ) → meant taking t (ex.NewSync n) ≡ meant_step taking t (E.NewSync n)
  meant-NewSync t n = ap (meant taking t) (sym (ex.rolls-NewSync n)) ∙ meant-rolls taking t (E.NewSync n)

  pub meant-Selector : (t : Tables) (e : Expr) (n : List ℕ)
      → meant taking t (ex.Selector e n) ≡ meant_step taking t (E.Selector (meant taking t e) n)
  meant-Selector t e n = ap (meant taking t) (sym (ex.rolls-Selector e n)) ∙ meant-rolls taking t (E.Selector e n)

  pub meant-Index : (t : Tables) (a i : Expr)
      → meant taking t (ex.Index a i) ≡ meant_step taking t (E.Index (meant taking t a) (meant taking t i))
  meant-Index t a i = ap (meant taking t) (sym (ex.rolls-Index a i)) ∙ meant-rolls taking t (E.Index a i)

  pub meant-Call : (t : Tables) (f : Expr) (xs : List Expr)
      → meant taking t (ex.Call f xs) ≡ meant_step taking t (E.Call (meant taking t f) (map (meant taking t) xs))
  meant-Call t f xs = ap (meant taking t) (sym (ex.rolls-Call f xs)) ∙ meant-rolls taking t (E.Call f xs)

  pub meant-Unary : (t : Tables) (o : UnaryOperator) (e : Expr)
      → meant taking t (ex.Unary o e) ≡ meant_step taking t (E.Unary o (meant taking t e))
  meant-Unary t o e = ap (meant taking t) (sym (ex.rolls-Unary o e)) ∙ meant-rolls taking t (E.Unary o e)

  pub meant-Binary : (t : Tables) (o : BinaryOperator) (a b : Expr)
      → meant taking t (ex.Binary o a b) ≡ meant_step taking t (E.Binary o (meant taking t a) (meant taking t b))
  meant-Binary t o a b = ap (meant taking t) (sym (ex.rolls-Binary o a b)) ∙ meant-rolls taking t (E.Binary o a b)

  pub step-Var : (t : Tables) (v : Var) → step taking t (st.Var v) ≡ step_step taking t (F.Var v)
  step-Var t v = ap (step taking t) (sym (st.rolls-Var v)) ∙ step-rolls taking t (F.Var v)

  pub step-Simple : (t : Tables) (x : Simple) → step taking t (st.Simple x) ≡ step_step taking t (F.Simple x)
  step-Simple t x = ap (step taking t) (sym (st.rolls-Simple x)) ∙ step-rolls taking t (F.Simple x)

  pub step-Go : (t : Tables) (l : ℕ) (f : Expr) (xs : List Expr)
      → step taking t (st.Go l f xs) ≡ step_step taking t (F.Go l f xs)
  step-Go t l f xs = ap (step taking t) (sym (st.rolls-Go l f xs)) ∙ step-rolls taking t (F.Go l f xs)

  pub step-Defer : (t : Tables) (l : ℕ) (f : Expr) (xs : List Expr)
      → step taking t (st.Defer l f xs) ≡ step_step taking t (F.Defer l f xs)
  step-Defer t l f xs = ap (step taking t) (sym (st.rolls-Defer l f xs)) ∙ step-rolls taking t (F.Defer l f xs)

  pub step-Return : (t : Tables) (l : ℕ) (e : Option Expr)
      → step taking t (st.Return l e) ≡ step_step taking t (F.Return l e)
  step-Return t l e = ap (step taking t) (sym (st.rolls-Return l e)) ∙ step-rolls taking t (F.Return l e)

  pub step-Break : (t : Tables) (l : ℕ) → step taking t (st.Break l) ≡ step_step taking t (F.Break l)
  step-Break t l = ap (step taking t) (sym (st.rolls-Break l)) ∙ step-rolls taking t (F.Break l)

  pub step-Continue : (t : Tables) (l : ℕ) → step taking t (st.Continue l) ≡ step_step taking t (F.Continue l)
  step-Continue t l = ap (step taking t) (sym (st.rolls-Continue l)) ∙ step-rolls taking t (F.Continue l)

  pub step-Block : (t : Tables) (l : ℕ) (body : List Stmt)
      → step taking t (st.Block l body) ≡ step_step taking t (F.Block l (map (step taking t) body))
  step-Block t l body = ap (step taking t) (sym (st.rolls-Block l body)) ∙ step-rolls taking t (F.Block l body)

  pub step-If : (t : Tables) (l : ℕ) (first : Option Simple) (test : Expr) (body : List Stmt)
      → step taking t (st.If l first test body) ≡ step_step taking t (F.If l first test (map (step taking t) body))
  step-If t l first test body = ap (step taking t) (sym (st.rolls-If l first test body))
      ∙ step-rolls taking t (F.If l first test body)

  pub step-IfElse : (t : Tables) (l : ℕ) (first : Option Simple) (test : Expr) (body : List Stmt) (otherwise : Stmt)
      → step taking t (st.IfElse l first test body otherwise) ≡ step_step taking t
      (F.IfElse l first test (map (step taking t) body) (step taking t otherwise))
  step-IfElse t l first test body otherwise = ap (step taking t) (sym (st.rolls-IfElse l first test body otherwise))
      ∙ step-rolls taking t (F.IfElse l first test body otherwise)

  pub step-For : (t : Tables) (l : ℕ) (h : Header) (body : List Stmt)
      → step taking t (st.For l h body) ≡ step_step taking t (F.For l h (map (step taking t) body))
  step-For t l h body = ap (step taking t) (sym (st.rolls-For l h body)) ∙ step-rolls taking t (F.For l h body)

  pub step-Select : (t : Tables) (l : ℕ) (cs : List Clause)
      → step taking t (st.Select l cs) ≡ step_step taking t (F.Select l (map (clause_step taking t) cs))
  step-Select t l cs = ap (step taking t) (sym (st.rolls-Select l cs)) ∙ step-rolls taking t (F.Select l cs)

  pub step-Case : (t : Tables) (l : ℕ) (c : Communication) (body : List Stmt)
      → clause_step taking t (cl.Case l c body) ≡ clause_step_step taking t (F.Case l c (map (step taking t) body))
  step-Case t l c body = ap (clause_step taking t) (sym (cl.rolls-Case l c body))
      ∙ clause-rolls taking t (F.Case l c body)

  pub step-Default : (t : Tables) (l : ℕ) (body : List Stmt)
      → clause_step taking t (cl.Default l body) ≡ clause_step_step taking t (F.Default l (map (step taking t) body))
  step-Default t l body = ap (clause_step taking t) (sym (cl.rolls-Default l body))
      ∙ clause-rolls taking t (F.Default l body)
