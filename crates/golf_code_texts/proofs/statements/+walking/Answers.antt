use Rattle.std.proofs.Common.{◌≡◌, arith, List, flat_map, sym, ap, ◌∙◌}
use Rattle.golf_syntax_trees.specs.declared.expressions.Expr.{Expr}
use Rattle.golf_syntax_trees.specs.declared.statements.Stmt.{Stmt}
use Rattle.golf_syntax_trees.specs.declared.statements.Stmt.TheVariants as st
use Rattle.golf_code_of.specs.Table.{Texts}
use Rattle.golf_code_of.specs.Texts.{expr_texts, optional_simple_texts, stmt_texts}
use Rattle.golf_code_of.proofs.TextEquations.{clause_texts}
use Rattle.golf_code_texts.specs.AddedTexts.{with_texts}
use Rattle.golf_syntax_trees.proofs.Elses.{behind, shorter}
use Rattle.golf_code_texts.proofs.Walks.{at_IfElse, one_more, no_more}
use Rattle.golf_code_texts.proofs.statements.+walking.Goals as goal

pub stmts-loop-stmt-preserved : goal.stmts-loop-stmt-preserved
stmts-loop-stmt-preserved t c =
    one_more stmt_texts c.args.body.now c.loop-stmt.stmt-index c.stmt-item.result c.loop-stmt.table
    c.statement.new.table _ c.loop-stmt-test.true c.stmt-item.is c.in_ok-statement.ensures c.loop-stmt.invariant

pub stmts-returns : goal.stmts-returns
stmts-returns t c = no_more stmt_texts c.args.body.now c.loop-stmt.stmt-index c.loop-stmt.table _ c.loop-stmt-test.false
    c.loop-stmt.invariant

pub clauses-loop-c-preserved : goal.clauses-loop-c-preserved
clauses-loop-c-preserved t c =
    one_more clause_texts c.args.cs.now c.loop-c.c-index c.c-item.result c.loop-c.table c.clause.new.table _
    c.loop-c-test.true c.c-item.is c.in_ok-clause.ensures c.loop-c.invariant

pub clauses-returns : goal.clauses-returns
clauses-returns t c = no_more clause_texts c.args.cs.now c.loop-c.c-index c.loop-c.table _ c.loop-c-test.false
    c.loop-c.invariant

pub otherwise_at-branches-preserved : goal.otherwise_at-branches-preserved
otherwise_at-branches-preserved t c =
    let v = c.branches in
    let i = c.in-IfElse in
    let next : Stmt = c.behind_else-last.result.now in
    let same : next ≡ i.field-4 = c.behind_else-last.ensures.is
    ∙ behind v.last.now i.field-0 i.first i.test i.body i.field-4 i.is in
    let less = shorter v.last.now i.field-0 i.first i.test i.body i.field-4 _ _ i.is
    c.behind_else-last.ensures.smaller in
    let front : Texts = with_texts v.table (optional_simple_texts i.first) in
    let adds : c.tested.new.table ≡ with_texts (with_texts front (expr_texts i.test)) (flat_map stmt_texts i.body) =
    c.in_ok-tested.ensures
    ∙ (ap (λ (e : Expr). with_texts (with_texts front (expr_texts e)) (flat_map stmt_texts c.as_slice.result.now))
    c.get.ensures
    ∙ ap (λ (xs : List Stmt). with_texts (with_texts front (expr_texts i.test)) (flat_map stmt_texts xs))
    c.as_slice.ensures) in
    record {
      texts = ap (λ (x : Texts). with_texts x (stmt_texts next)) adds
          ∙ (sym (at_IfElse v.table v.last.now i.field-0 i.first i.test i.body next
          (i.is ∙ ap (λ (z : Stmt). st.IfElse i.field-0 i.first i.test i.body z) (sym same)))
          ∙ v.invariant.texts);
      smaller = omega (arith, less, v.invariant.smaller);
    }
