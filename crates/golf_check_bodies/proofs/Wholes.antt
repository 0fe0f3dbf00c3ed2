-- What the answers for an expression with a list of parts, and for a `select`, tell.
-- For: `innermost`, src/expressions.rt; `statement`, src/statements.rt; specs/CheckerClauses.antt
-- By: computing; no induction
use Rattle.std.proofs.Common.{◌≡◌, ℕ, List, map, sym, ap, subst, ◌∙◌}
use Rattle.std.specs.Prelude.{Result}
use Rattle.std.proofs.lemmas.Simd.{map-map}
use Rattle.golf_syntax_trees.specs.declared.types.TypeExpr.{TypeExpr}
use Rattle.golf_syntax_trees.specs.declared.expressions.Expr.{Expr}
use Rattle.golf_syntax_trees.specs.declared.expressions.Element.{Element}
use Rattle.golf_syntax_trees.specs.declared.expressions.Expr.TheVariants as ex
use Rattle.golf_syntax_trees.specs.declared.statements.Stmt.{Stmt}
use Rattle.golf_syntax_trees.specs.declared.statements.Stmt.TheVariants as st
use Rattle.golf_syntax_trees.specs.declared.statements.Clause.{Clause}
use Rattle.golf_syntax_trees.specs.declared.statements.Clause.TheOpen as S
use Rattle.golf_syntax_trees.specs.declared.statements.Clause.TheFolds.{fold-roll-Stmt}
use Rattle.golf_check_types.specs.declared.fault.TypeFault.{TypeFault}
use Rattle.golf_check_types.specs.declared.types.Layer.TheVariants as layer
use Rattle.golf_check_types.specs.declared.operands.Operand.{Operand}
use Rattle.golf_check_types.specs.declared.scopes.Scope.{Scope}
use Rattle.golf_check_types.specs.Types.{with_layer}
use Rattle.golf_check_types.specs.Scopes.{meaning}
use Rattle.golf_check_types.specs.Written.{write, pointer_to}
use Rattle.golf_check_types.specs.Expressions.{Judged, struct_literal, slice_literal}
use Rattle.golf_check_types.specs.Judgments.{judge, judge_at, value_at}
use Rattle.golf_check_types.specs.Statements.{Walk, in_order, clause_step, stmt_step, walk, walk_clause, walk_clause_at}
use Rattle.golf_check_types.proofs.JudgeLaws.{judge-SliceLiteral, judge-StructLiteral}
use Rattle.golf_check_bodies.specs.declared.checker.Checker.{Checker}
use Rattle.golf_check_bodies.specs.CheckerClauses.{Judges, Walks}

module _ (r : Result Operand TypeFault) (e : Expr) (old new : Checker) where
  same_judged : (i j : Judged) → i ≡ j → Judges r i old new → Judges r j old new
  same_judged i j p h = subst (λ k. Judges r k old new) p h

  pub slice_tells : (t u : TypeExpr) (xs ys : List Expr) → e ≡ ex.SliceLiteral t xs → u ≡ t → ys ≡ xs
      → Judges r (slice_literal old.line (write u old.line old.scope)
      (with_layer layer.Slice (write u old.line old.scope).type) (map (judge_at old.line old.scope) ys)) old new
      → Judges r (judge e old.line old.scope) old new
  slice_tells t u xs ys is same also h =
      let l = old.line in
      let s = old.scope in
      same_judged (slice_literal l (write u l s) (with_layer layer.Slice (write u l s).type) (map (judge_at l s) ys))
      (judge e l s)
      (ap (λ v. slice_literal l (write v l s) (with_layer layer.Slice (write v l s).type) (map (judge_at l s) ys)) same
      ∙ ap (λ zs. slice_literal l (write t l s) (with_layer layer.Slice (write t l s).type) (map (judge_at l s) zs))
      also ∙ sym (ap (judge_at l s) is ∙ judge-SliceLiteral t xs l s)) h

  pub struct_tells : (n m : List ℕ) (xs ys : List Element) → e ≡ ex.StructLiteral n xs → m ≡ n → ys ≡ xs
      → Judges r (struct_literal old.line old.scope.file (pointer_to (meaning old.scope m)) (map (λ x. x.field) ys)
      (map (value_at old.line old.scope) ys)) old new → Judges r (judge e old.line old.scope) old new
  struct_tells n m xs ys is same also h =
      let l = old.line in
      let s = old.scope in
      same_judged (struct_literal l s.file (pointer_to (meaning s m)) (map (λ x. x.field) ys) (map (value_at l s) ys))
      (judge e l s)
      (ap (λ k. struct_literal l s.file (pointer_to (meaning s k)) (map (λ x. x.field) ys) (map (value_at l s) ys)) same
      ∙ ap (λ zs. struct_literal l s.file (pointer_to (meaning s n)) (map (λ x. x.field) zs)
      (map (value_at l s) zs)) also ∙ sym (ap (judge_at l s) is ∙ judge-StructLiteral n xs l s)) h

pub walk-Select : (l : ℕ) (cs : List Clause) (s : Scope)
    → walk (st.Select l cs) s ≡ in_order (map (walk_clause_at l) cs) s
unfolding walk walk_clause
walk-Select l cs s =
    ap (λ w. w s) (ap walk (sym (st.rolls-Select l cs))
    ∙ fold-roll-Stmt (ℕ → Walk) Walk clause_step stmt_step (S.Select l cs))
    ∙ ap (λ ws. in_order ws s) (map-map (λ c. c l) walk_clause cs)

-- a statement that is a select, and its clauses as a slice
pub record SelectWith (x : Stmt) : Type 0 where
  pub line : ℕ
  pub clauses : List Clause
  pub slice : List Clause
  pub is : x ≡ st.Select line clauses
  pub slice_is : slice ≡ clauses

-- a checker on another line
abbrev pub on_line : Checker → ℕ → Checker
on_line c l = record c { line = l }

pub select_tells : {A : Type 0} (r : Result A TypeFault) (x : Stmt) (old new : Checker) (select : SelectWith x)
    → Walks r (in_order (map (walk_clause_at select.line) select.slice) old.scope) (on_line old select.line) new
    → Walks r (walk x old.scope) old new
select_tells r x old new select h =
    subst (λ w. Walks r w old new) (ap (λ es. in_order (map (walk_clause_at select.line) es) old.scope) select.slice_is
    ∙ sym (ap (λ y. walk y old.scope) select.is ∙ walk-Select select.line select.clauses old.scope)) h
