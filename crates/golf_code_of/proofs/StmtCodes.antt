-- The code of each kind of statement and clause, as an equation.
-- For: `stmt_part`, `clause_part` (golf_code_of/specs/StatementCode.antt)
-- By: computing, kind by kind; no induction
use Rattle.std.proofs.Common.{◌≡◌, ℕ, List, map, ap, sym, ◌∙◌}
use Rattle.std.specs.Prelude.{Option}
use Rattle.golf_syntax_trees.specs.declared.expressions.Expr.{Expr}
use Rattle.golf_syntax_trees.specs.declared.statements.Simple.{Simple}
use Rattle.golf_syntax_trees.specs.declared.statements.Var.{Var}
use Rattle.golf_syntax_trees.specs.declared.statements.Header.{Header}
use Rattle.golf_syntax_trees.specs.declared.statements.Communication.{Communication}
use Rattle.golf_syntax_trees.specs.declared.statements.Stmt.{Stmt, roll-Stmt}
use Rattle.golf_syntax_trees.specs.declared.statements.Stmt.TheVariants as st
use Rattle.golf_syntax_trees.specs.declared.statements.Clause.{Clause, roll-Clause}
use Rattle.golf_syntax_trees.specs.declared.statements.Clause.TheVariants as cl
use Rattle.golf_syntax_trees.specs.declared.statements.Clause.TheOpen.{Stmt-F, Clause-F}
use Rattle.golf_syntax_trees.specs.declared.statements.Clause.TheOpen as F
use Rattle.golf_syntax_trees.specs.declared.statements.Clause.TheFolds.{fold-roll-Stmt, fold-roll-Clause, map-Stmt}
use Rattle.golf_syntax_trees.specs.declared.statements.Clause.TheFolds.{map-Clause}
use Rattle.golf_code_of.specs.declared.tables.Tables.{Tables}
use Rattle.golf_code_of.specs.Statements.{StatementPart}
use Rattle.golf_code_of.specs.Selects.{ClausePart}
use Rattle.golf_code_of.specs.StatementCode.{stmt_part, clause_part, stmt_part_step, clause_part_step}

-- one layer of a statement, and of a clause
abbrev pub part_layer : Tables → Stmt-F Clause Stmt → StatementPart
part_layer t y = stmt_part_step t (map-Stmt Clause Stmt ClausePart StatementPart (clause_part t) (stmt_part t) y)

abbrev pub clause_layer : Tables → Clause-F Clause Stmt → ClausePart
clause_layer t y = clause_part_step t (map-Clause Clause Stmt ClausePart StatementPart (clause_part t) (stmt_part t) y)

pub part-rolls : (t : Tables) (y : Stmt-F Clause Stmt) → stmt_part t (roll-Stmt y) ≡ part_layer t y
unfolding stmt_part clause_part
part-rolls t = fold-roll-Stmt ClausePart StatementPart (clause_part_step t) (stmt_part_step t)

pub clause-rolls : (t : Tables) (y : Clause-F Clause Stmt) → clause_part t (roll-Clause y) ≡ clause_layer t y
unfolding stmt_part clause_part
clause-rolls t = fold-roll-Clause ClausePart StatementPart (clause_part_step t) (stmt_part_step t)

pub part-Var : (t : Tables) (v : Var) → stmt_part t (st.Var v) ≡ stmt_part_step t (F.Var v)
part-Var t v = ap (stmt_part t) (sym (st.rolls-Var v)) ∙ part-rolls t (F.Var v)

pub part-Simple : (t : Tables) (x : Simple) → stmt_part t (st.Simple x) ≡ stmt_part_step t (F.Simple x)
part-Simple t x = ap (stmt_part t) (sym (st.rolls-Simple x)) ∙ part-rolls t (F.Simple x)

pub part-Go : (t : Tables) (l : ℕ) (f : Expr) (xs : List Expr)
    → stmt_part t (st.Go l f xs) ≡ stmt_part_step t (F.Go l f xs)
part-Go t l f xs = ap (stmt_part t) (sym (st.rolls-Go l f xs)) ∙ part-rolls t (F.Go l f xs)

pub part-Defer : (t : Tables) (l : ℕ) (f : Expr) (xs : List Expr)
    → stmt_part t (st.Defer l f xs) ≡ stmt_part_step t (F.Defer l f xs)
part-Defer t l f xs = ap (stmt_part t) (sym (st.rolls-Defer l f xs)) ∙ part-rolls t (F.Defer l f xs)

pub part-Return : (t : Tables) (l : ℕ) (e : Option Expr) → stmt_part t (st.Return l e) ≡ stmt_part_step t (F.Return l e)
part-Return t l e = ap (stmt_part t) (sym (st.rolls-Return l e)) ∙ part-rolls t (F.Return l e)

pub part-Break : (t : Tables) (l : ℕ) → stmt_part t (st.Break l) ≡ stmt_part_step t (F.Break l)
part-Break t l = ap (stmt_part t) (sym (st.rolls-Break l)) ∙ part-rolls t (F.Break l)

pub part-Continue : (t : Tables) (l : ℕ) → stmt_part t (st.Continue l) ≡ stmt_part_step t (F.Continue l)
part-Continue t l = ap (stmt_part t) (sym (st.rolls-Continue l)) ∙ part-rolls t (F.Continue l)

pub part-Block : (t : Tables) (l : ℕ) (body : List Stmt)
    → stmt_part t (st.Block l body) ≡ stmt_part_step t (F.Block l (map (stmt_part t) body))
part-Block t l body = ap (stmt_part t) (sym (st.rolls-Block l body)) ∙ part-rolls t (F.Block l body)

pub part-If : (t : Tables) (l : ℕ) (first : Option Simple) (test : Expr) (body : List Stmt)
    → stmt_part t (st.If l first test body) ≡ stmt_part_step t (F.If l first test (map (stmt_part t) body))
part-If t l first test body = ap (stmt_part t) (sym (st.rolls-If l first test body))
    ∙ part-rolls t (F.If l first test body)

pub part-IfElse : (t : Tables) (l : ℕ) (first : Option Simple) (test : Expr) (body : List Stmt) (otherwise : Stmt)
    → stmt_part t (st.IfElse l first test body otherwise) ≡ stmt_part_step t
    (F.IfElse l first test (map (stmt_part t) body) (stmt_part t otherwise))
part-IfElse t l first test body otherwise = ap (stmt_part t) (sym (st.rolls-IfElse l first test body otherwise))
    ∙ part-rolls t (F.IfElse l first test body otherwise)

pub part-For : (t : Tables) (l : ℕ) (h : Header) (body : List Stmt)
    → stmt_part t (st.For l h body) ≡ stmt_part_step t (F.For l h (map (stmt_part t) body))
part-For t l h body = ap (stmt_part t) (sym (st.rolls-For l h body)) ∙ part-rolls t (F.For l h body)

pub part-Select : (t : Tables) (l : ℕ) (cs : List Clause)
    → stmt_part t (st.Select l cs) ≡ stmt_part_step t (F.Select l (map (clause_part t) cs))
part-Select t l cs = ap (stmt_part t) (sym (st.rolls-Select l cs)) ∙ part-rolls t (F.Select l cs)

pub clause-Case : (t : Tables) (l : ℕ) (c : Communication) (body : List Stmt)
    → clause_part t (cl.Case l c body) ≡ clause_part_step t (F.Case l c (map (stmt_part t) body))
clause-Case t l c body = ap (clause_part t) (sym (cl.rolls-Case l c body)) ∙ clause-rolls t (F.Case l c body)

pub clause-Default : (t : Tables) (l : ℕ) (body : List Stmt)
    → clause_part t (cl.Default l body) ≡ clause_part_step t (F.Default l (map (stmt_part t) body))
clause-Default t l body = ap (clause_part t) (sym (cl.rolls-Default l body)) ∙ clause-rolls t (F.Default l body)

pub ruleset statement_codes = (
  part-Var,
  part-Simple,
  part-Go,
  part-Defer,
  part-Return,
  part-Break,
  part-Continue,
  part-Block,
  part-If,
  part-IfElse,
  part-For,
  part-Select,
  clause-Case,
  clause-Default,
)
