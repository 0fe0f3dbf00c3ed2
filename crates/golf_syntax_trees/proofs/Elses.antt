-- What stands behind the `else` of an `if`.
-- For: `else_of`, specs/Elses.antt, and the walks over statements of other crates
-- By: computing; no induction
use Rattle.std.proofs.Common.{◌≡◌, ℕ, ◌<◌, List, Option, ap, sym, subst, ◌∙◌}
use Rattle.golf_syntax_trees.specs.declared.expressions.Expr.{Expr}
use Rattle.golf_syntax_trees.specs.declared.statements.Simple.{Simple}
use Rattle.golf_syntax_trees.specs.declared.statements.Stmt.{Stmt, out-Stmt, out-roll-Stmt}
use Rattle.golf_syntax_trees.specs.declared.statements.Stmt.TheVariants as st
use Rattle.golf_syntax_trees.specs.declared.statements.Clause.TheOpen as G
use Rattle.golf_syntax_trees.specs.Elses.{else_in, else_of, IsShorter}

opened : (l : ℕ) (first : Option Simple) (test : Expr) (body : List Stmt) (z : Stmt)
    → out-Stmt (st.IfElse l first test body z) ≡ G.IfElse l first test body z
opened l first test body z = ap out-Stmt (sym (st.rolls-IfElse l first test body z))
    ∙ out-roll-Stmt (G.IfElse l first test body z)

pub behind : (s : Stmt) (l : ℕ) (first : Option Simple) (test : Expr) (body : List Stmt) (z : Stmt)
    → s ≡ st.IfElse l first test body z → else_of s ≡ z
unfolding else_of
behind s l first test body z is = ap (λ (x : Stmt). else_in x (out-Stmt x)) is
    ∙ ap (else_in (st.IfElse l first test body z)) (opened l first test body z)

pub shorter : (s : Stmt) (l : ℕ) (first : Option Simple) (test : Expr) (body : List Stmt) (z : Stmt) (m n : ℕ)
    → s ≡ st.IfElse l first test body z → IsShorter (out-Stmt s) m n → m < n
shorter s l first test body z m n is h = subst (λ x. IsShorter x m n) (ap out-Stmt is ∙ opened l first test body z) h
