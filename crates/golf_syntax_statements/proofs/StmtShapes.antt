-- What each kind of statement and clause prints, and its form; and an induction over statements, by their kinds.
-- For: `print_stmt`, `stmt_form` (golf_syntax_trees/specs/Statements.antt)
-- By: computing, kind by kind; `each` is the induction over the tree of a statement
use Rattle.std.proofs.Common.{◌≡◌, ℕ, List, map, ap, sym, subst, ◌∙◌}
use Rattle.std.specs.Prelude.{Option}
use Rattle.golf_syntax_trees.specs.declared.expressions.Expr.{Expr}
use Rattle.golf_syntax_trees.specs.declared.statements.Simple.{Simple}
use Rattle.golf_syntax_trees.specs.declared.statements.Var.{Var}
use Rattle.golf_syntax_trees.specs.declared.statements.Header.{Header}
use Rattle.golf_syntax_trees.specs.declared.statements.Communication.{Communication}
use Rattle.golf_syntax_trees.specs.declared.statements.Stmt.{Stmt, roll-Stmt}
use Rattle.golf_syntax_trees.specs.declared.statements.Stmt.TheVariants as st
use Rattle.golf_syntax_trees.specs.declared.statements.Clause.{Clause, roll-Clause}
use Rattle.golf_syntax_trees.specs.declared.statements.Clause.TheVariants as cl
use Rattle.golf_syntax_trees.specs.declared.statements.Clause.TheOpen.{Stmt-F, Clause-F}
use Rattle.golf_syntax_trees.specs.declared.statements.Clause.TheOpen as F
use Rattle.golf_syntax_trees.specs.declared.statements.Clause.TheFolds.{fold-roll-Stmt, fold-roll-Clause, ind-Stmt}
use Rattle.golf_syntax_trees.specs.declared.statements.Clause.TheFolds.{map-Stmt, map-Clause}
use Rattle.golf_syntax_trees.specs.Words.{Word}
use Rattle.golf_syntax_trees.specs.Statements.{ClauseWords, print_stmt_step, print_clause_step, print_stmt}
use Rattle.golf_syntax_trees.specs.Statements.{print_clause, StmtForm, ClauseForm, stmt_form_step, clause_form_step}
use Rattle.golf_syntax_trees.specs.Statements.{stmt_form, clause_form}

pub print-Var : (v : Var) → print_stmt (st.Var v) ≡ print_stmt_step (F.Var v)
print-Var v = ap print_stmt (sym (st.rolls-Var v))
    ∙ fold-roll-Stmt ClauseWords (List Word) print_clause_step print_stmt_step (F.Var v)

pub form-Var : (v : Var) → stmt_form (st.Var v) ≡ stmt_form_step (F.Var v)
form-Var v = ap stmt_form (sym (st.rolls-Var v))
    ∙ fold-roll-Stmt ClauseForm StmtForm clause_form_step stmt_form_step (F.Var v)

pub print-Simple : (x : Simple) → print_stmt (st.Simple x) ≡ print_stmt_step (F.Simple x)
print-Simple x = ap print_stmt (sym (st.rolls-Simple x))
    ∙ fold-roll-Stmt ClauseWords (List Word) print_clause_step print_stmt_step (F.Simple x)

pub form-Simple : (x : Simple) → stmt_form (st.Simple x) ≡ stmt_form_step (F.Simple x)
form-Simple x = ap stmt_form (sym (st.rolls-Simple x))
    ∙ fold-roll-Stmt ClauseForm StmtForm clause_form_step stmt_form_step (F.Simple x)

pub print-Go : (l : ℕ) (f : Expr) (xs : List Expr) → print_stmt (st.Go l f xs) ≡ print_stmt_step (F.Go l f xs)
print-Go l f xs = ap print_stmt (sym (st.rolls-Go l f xs))
    ∙ fold-roll-Stmt ClauseWords (List Word) print_clause_step print_stmt_step (F.Go l f xs)

pub form-Go : (l : ℕ) (f : Expr) (xs : List Expr) → stmt_form (st.Go l f xs) ≡ stmt_form_step (F.Go l f xs)
form-Go l f xs = ap stmt_form (sym (st.rolls-Go l f xs))
    ∙ fold-roll-Stmt ClauseForm StmtForm clause_form_step stmt_form_step (F.Go l f xs)

pub print-Defer : (l : ℕ) (f : Expr) (xs : List Expr) → print_stmt (st.Defer l f xs) ≡ print_stmt_step (F.Defer l f xs)
print-Defer l f xs = ap print_stmt (sym (st.rolls-Defer l f xs))
    ∙ fold-roll-Stmt ClauseWords (List Word) print_clause_step print_stmt_step (F.Defer l f xs)

pub form-Defer : (l : ℕ) (f : Expr) (xs : List Expr) → stmt_form (st.Defer l f xs) ≡ stmt_form_step (F.Defer l f xs)
form-Defer l f xs = ap stmt_form (sym (st.rolls-Defer l f xs))
    ∙ fold-roll-Stmt ClauseForm StmtForm clause_form_step stmt_form_step (F.Defer l f xs)

pub print-Return : (l : ℕ) (e : Option Expr) → print_stmt (st.Return l e) ≡ print_stmt_step (F.Return l e)
print-Return l e = ap print_stmt (sym (st.rolls-Return l e))
    ∙ fold-roll-Stmt ClauseWords (List Word) print_clause_step print_stmt_step (F.Return l e)

pub form-Return : (l : ℕ) (e : Option Expr) → stmt_form (st.Return l e) ≡ stmt_form_step (F.Return l e)
form-Return l e = ap stmt_form (sym (st.rolls-Return l e))
    ∙ fold-roll-Stmt ClauseForm StmtForm clause_form_step stmt_form_step (F.Return l e)

pub print-Break : (l : ℕ) → print_stmt (st.Break l) ≡ print_stmt_step (F.Break l)
print-Break l = ap print_stmt (sym (st.rolls-Break l))
    ∙ fold-roll-Stmt ClauseWords (List Word) print_clause_step print_stmt_step (F.Break l)

pub form-Break : (l : ℕ) → stmt_form (st.Break l) ≡ stmt_form_step (F.Break l)
form-Break l = ap stmt_form (sym (st.rolls-Break l))
    ∙ fold-roll-Stmt ClauseForm StmtForm clause_form_step stmt_form_step (F.Break l)

pub print-Continue : (l : ℕ) → print_stmt (st.Continue l) ≡ print_stmt_step (F.Continue l)
print-Continue l = ap print_stmt (sym (st.rolls-Continue l))
    ∙ fold-roll-Stmt ClauseWords (List Word) print_clause_step print_stmt_step (F.Continue l)

pub form-Continue : (l : ℕ) → stmt_form (st.Continue l) ≡ stmt_form_step (F.Continue l)
form-Continue l = ap stmt_form (sym (st.rolls-Continue l))
    ∙ fold-roll-Stmt ClauseForm StmtForm clause_form_step stmt_form_step (F.Continue l)

pub print-Block : (l : ℕ) (b : List Stmt) → print_stmt (st.Block l b) ≡ print_stmt_step (F.Block l (map print_stmt b))
print-Block l b = ap print_stmt (sym (st.rolls-Block l b))
    ∙ fold-roll-Stmt ClauseWords (List Word) print_clause_step print_stmt_step (F.Block l b)

pub form-Block : (l : ℕ) (b : List Stmt) → stmt_form (st.Block l b) ≡ stmt_form_step (F.Block l (map stmt_form b))
form-Block l b = ap stmt_form (sym (st.rolls-Block l b))
    ∙ fold-roll-Stmt ClauseForm StmtForm clause_form_step stmt_form_step (F.Block l b)

pub print-If : (l : ℕ) (i : Option Simple) (e : Expr) (b : List Stmt)
    → print_stmt (st.If l i e b) ≡ print_stmt_step (F.If l i e (map print_stmt b))
print-If l i e b = ap print_stmt (sym (st.rolls-If l i e b))
    ∙ fold-roll-Stmt ClauseWords (List Word) print_clause_step print_stmt_step (F.If l i e b)

pub form-If : (l : ℕ) (i : Option Simple) (e : Expr) (b : List Stmt)
    → stmt_form (st.If l i e b) ≡ stmt_form_step (F.If l i e (map stmt_form b))
form-If l i e b = ap stmt_form (sym (st.rolls-If l i e b))
    ∙ fold-roll-Stmt ClauseForm StmtForm clause_form_step stmt_form_step (F.If l i e b)

pub print-IfElse : (l : ℕ) (i : Option Simple) (e : Expr) (b : List Stmt) (o : Stmt)
    → print_stmt (st.IfElse l i e b o) ≡ print_stmt_step (F.IfElse l i e (map print_stmt b) (print_stmt o))
print-IfElse l i e b o = ap print_stmt (sym (st.rolls-IfElse l i e b o))
    ∙ fold-roll-Stmt ClauseWords (List Word) print_clause_step print_stmt_step (F.IfElse l i e b o)

pub form-IfElse : (l : ℕ) (i : Option Simple) (e : Expr) (b : List Stmt) (o : Stmt)
    → stmt_form (st.IfElse l i e b o) ≡ stmt_form_step (F.IfElse l i e (map stmt_form b) (stmt_form o))
form-IfElse l i e b o = ap stmt_form (sym (st.rolls-IfElse l i e b o))
    ∙ fold-roll-Stmt ClauseForm StmtForm clause_form_step stmt_form_step (F.IfElse l i e b o)

pub print-For : (l : ℕ) (h : Header) (b : List Stmt)
    → print_stmt (st.For l h b) ≡ print_stmt_step (F.For l h (map print_stmt b))
print-For l h b = ap print_stmt (sym (st.rolls-For l h b))
    ∙ fold-roll-Stmt ClauseWords (List Word) print_clause_step print_stmt_step (F.For l h b)

pub form-For : (l : ℕ) (h : Header) (b : List Stmt)
    → stmt_form (st.For l h b) ≡ stmt_form_step (F.For l h (map stmt_form b))
form-For l h b = ap stmt_form (sym (st.rolls-For l h b))
    ∙ fold-roll-Stmt ClauseForm StmtForm clause_form_step stmt_form_step (F.For l h b)

pub print-Select : (l : ℕ) (cs : List Clause)
    → print_stmt (st.Select l cs) ≡ print_stmt_step (F.Select l (map print_clause cs))
print-Select l cs = ap print_stmt (sym (st.rolls-Select l cs))
    ∙ fold-roll-Stmt ClauseWords (List Word) print_clause_step print_stmt_step (F.Select l cs)

pub form-Select : (l : ℕ) (cs : List Clause)
    → stmt_form (st.Select l cs) ≡ stmt_form_step (F.Select l (map clause_form cs))
form-Select l cs = ap stmt_form (sym (st.rolls-Select l cs))
    ∙ fold-roll-Stmt ClauseForm StmtForm clause_form_step stmt_form_step (F.Select l cs)

pub print-Case : (l : ℕ) (c : Communication) (b : List Stmt)
    → print_clause (cl.Case l c b) ≡ print_clause_step (F.Case l c (map print_stmt b))
print-Case l c b = ap print_clause (sym (cl.rolls-Case l c b))
    ∙ fold-roll-Clause ClauseWords (List Word) print_clause_step print_stmt_step (F.Case l c b)

pub form-Case : (l : ℕ) (c : Communication) (b : List Stmt)
    → clause_form (cl.Case l c b) ≡ clause_form_step (F.Case l c (map stmt_form b))
form-Case l c b = ap clause_form (sym (cl.rolls-Case l c b))
    ∙ fold-roll-Clause ClauseForm StmtForm clause_form_step stmt_form_step (F.Case l c b)

pub print-Default : (l : ℕ) (b : List Stmt)
    → print_clause (cl.Default l b) ≡ print_clause_step (F.Default l (map print_stmt b))
print-Default l b = ap print_clause (sym (cl.rolls-Default l b))
    ∙ fold-roll-Clause ClauseWords (List Word) print_clause_step print_stmt_step (F.Default l b)

pub form-Default : (l : ℕ) (b : List Stmt)
    → clause_form (cl.Default l b) ≡ clause_form_step (F.Default l (map stmt_form b))
form-Default l b = ap clause_form (sym (cl.rolls-Default l b))
    ∙ fold-roll-Clause ClauseForm StmtForm clause_form_step stmt_form_step (F.Default l b)

-- an induction over statements, by their kinds
module _ (P : Stmt → Type 0) (Q : Clause → Type 0)
    (on_Var : (v : Var) → P (st.Var v))
    (on_Simple : (x : Simple) → P (st.Simple x))
    (on_Go : (l : ℕ) (f : Expr) (xs : List Expr) → P (st.Go l f xs))
    (on_Defer : (l : ℕ) (f : Expr) (xs : List Expr) → P (st.Defer l f xs))
    (on_Return : (l : ℕ) (e : Option Expr) → P (st.Return l e))
    (on_Break : (l : ℕ) → P (st.Break l))
    (on_Continue : (l : ℕ) → P (st.Continue l))
    (on_Block : (l : ℕ) (b : List ((s : Stmt) × P s)) → P (st.Block l (map (λ p. p.0) b)))
    (on_If : (l : ℕ) (i : Option Simple) (e : Expr) (b : List ((s : Stmt) × P s)) → P (st.If l i e (map (λ p. p.0) b)))
    (on_IfElse : (l : ℕ) (i : Option Simple) (e : Expr) (b : List ((s : Stmt) × P s)) (o : Stmt) → P o
    → P (st.IfElse l i e (map (λ p. p.0) b) o))
    (on_For : (l : ℕ) (h : Header) (b : List ((s : Stmt) × P s)) → P (st.For l h (map (λ p. p.0) b)))
    (on_Select : (l : ℕ) (cs : List ((c : Clause) × Q c)) → P (st.Select l (map (λ p. p.0) cs)))
    (on_Case : (l : ℕ) (c : Communication) (b : List ((s : Stmt) × P s)) → Q (cl.Case l c (map (λ p. p.0) b)))
    (on_Default : (l : ℕ) (b : List ((s : Stmt) × P s)) → Q (cl.Default l (map (λ p. p.0) b))) where
  at : (y : Stmt-F ((c : Clause) × Q c) ((s : Stmt) × P s))
      → P (roll-Stmt (map-Stmt ((c : Clause) × Q c) ((s : Stmt) × P s) Clause Stmt (λ p. p.0) (λ p. p.0) y))
  at (F.Var v) = subst P (sym (st.rolls-Var v)) (on_Var v)
  at (F.Simple x) = subst P (sym (st.rolls-Simple x)) (on_Simple x)
  at (F.Go l f xs) = subst P (sym (st.rolls-Go l f xs)) (on_Go l f xs)
  at (F.Defer l f xs) = subst P (sym (st.rolls-Defer l f xs)) (on_Defer l f xs)
  at (F.Return l e) = subst P (sym (st.rolls-Return l e)) (on_Return l e)
  at (F.Break l) = subst P (sym (st.rolls-Break l)) (on_Break l)
  at (F.Continue l) = subst P (sym (st.rolls-Continue l)) (on_Continue l)
  at (F.Block l b) = subst P (sym (st.rolls-Block l (map (λ p. p.0) b))) (on_Block l b)
  at (F.If l i e b) = subst P (sym (st.rolls-If l i e (map (λ p. p.0) b))) (on_If l i e b)
  at (F.IfElse l i e b o) = subst P (sym (st.rolls-IfElse l i e (map (λ p. p.0) b) o.0)) (on_IfElse l i e b o.0 o.1)
  at (F.For l h b) = subst P (sym (st.rolls-For l h (map (λ p. p.0) b))) (on_For l h b)
  at (F.Select l cs) = subst P (sym (st.rolls-Select l (map (λ p. p.0) cs))) (on_Select l cs)

  clause_at : (y : Clause-F ((c : Clause) × Q c) ((s : Stmt) × P s))
      → Q (roll-Clause (map-Clause ((c : Clause) × Q c) ((s : Stmt) × P s) Clause Stmt (λ p. p.0) (λ p. p.0) y))
  clause_at (F.Case l c b) = subst Q (sym (cl.rolls-Case l c (map (λ p. p.0) b))) (on_Case l c b)
  clause_at (F.Default l b) = subst Q (sym (cl.rolls-Default l (map (λ p. p.0) b))) (on_Default l b)

  pub each : (x : Stmt) → P x
  each = ind-Stmt Q P (λ x y is. subst (λ z. Q (roll-Clause z)) is (clause_at y))
      (λ x y is. subst (λ z. P (roll-Stmt z)) is (at y))
