use Rattle.std.proofs.Common.{◌≡◌, ℕ, suc, subst, ◌+◌, ◌-◌, ◌<◌, Bor, List, ◌∷◌, arith, drop, length-drop, length, map}
use Rattle.std.proofs.Common.{ap, sym, ◌∙◌}
use Rattle.std.proofs.lemmas.List.{length-map}
use Rattle.golf_code_layout.specs.Piece.{Piece}
use Rattle.golf_code_of.specs.declared.tables.Tables.{Tables}
use Rattle.golf_code_layout.specs.Emission.{onto}
use Rattle.golf_code_facts.specs.Selects.{ClauseBy}
use Rattle.golf_code_facts.specs.Statements.{then_lay}
use Rattle.golf_code_facts.specs.StatementCode.{stmt_by, clause_by}
use Rattle.golf_code_expressions.specs.declared.writer.Writer.{Writer}
use Rattle.golf_code_statements.specs.Clauses.{opened, with_clauses}
use Rattle.golf_code_statements.specs.Lays.{around, after}
use Rattle.golf_code_statements.specs.Branches.{with_parts, branched, shut}
use Rattle.golf_code_statements.proofs.Branches.{branch_ended, branches}
use Rattle.golf_syntax_trees.proofs.Elses.{behind, shorter}
use Rattle.golf_syntax_trees.specs.declared.statements.Stmt.{Stmt}
use Rattle.golf_syntax_trees.specs.declared.statements.Stmt.TheVariants as st
use Rattle.golf_code_statements.proofs.Seams.{written}
use Rattle.golf_code_statements.proofs.Selects.{WritesSelect, WritesClause, clause_step, select_lays, left_from}
use Rattle.golf_code_statements.proofs.statements.+laying.Goals as goal

pub select_at-returns : goal.select_at-returns
select_at-returns t c =
    let a = c.args in
    let by = clause_by a.writer.now.draft.tables.now in
    let cs = map by a.clauses.now in
    let how : WritesSelect a.line cs a.targets a.writer.now c.choose.new.writer c.clauses_at.new.writer
    c.block.new.emitted c.begin_blocks.new.emitted c.end.new.emitted = record {
      block_is = c.in_ok-block.ensures;
      blocks_are = c.in_ok-begin_blocks.ensures
          ∙ ap (λ n. opened n c.block.new.emitted) (sym (length-map a.clauses.now by));
      chosen_is = c.in_ok-choose.ensures;
      written_is = c.in_ok-clauses_at.ensures
          ∙ ap (λ (b : Bor Tables). with_clauses (map (clause_by b.now) a.clauses.now) a.targets c.choose.new.writer)
          (ap (λ (w : Writer). w.draft.tables) c.in_ok-choose.ensures);
      ended_is = c.in_ok-end.ensures;
    } in
    select_lays how

pub clauses_at-loop-clause-preserved : goal.clauses_at-loop-clause-preserved
clauses_at-loop-clause-preserved t c =
    let a = c.args in
    let v = c.loop-clause in
    let w = v.writer in
    let one = c.clause-item.result in
    let later = c.saturating_sub-later.result in
    let by = clause_by a.writer.now.draft.tables.now in
    let others = map by (drop (v.clause-index + 1) a.clauses.now) in
    let within : v.clause-index < length a.clauses.now = c.loop-clause-test.true in
    let left : map by (drop v.clause-index a.clauses.now) ≡ by one ∷ others =
    left_from by a.clauses.now v.clause-index one within c.clause-item.is in
    let less : later ≡ v.later - 1 = c.saturating_sub-later.ensures in
    let sum : v.later + v.clause-index ≡ length a.clauses.now = v.invariant.left in
    let counted : later ≡ length others = simp (length-map, length-drop) (omega arith) in
    let ended = written w.facts (record w.draft { emitted = c.end.new.emitted }) in
    let one_more : c.clause_at.new.writer ≡ after ended ((by one).lay (around ended c.in_ok-inner.inner) w.facts) =
    c.in_ok-clause_at.ensures ∙ ap (λ (b : Bor Tables). after ended
    ((clause_by b.now one).lay (around ended c.in_ok-inner.inner) w.facts)) v.invariant.tables in
    let how : WritesClause later (by one) a.targets c.in_ok-inner.inner w c.clause_at.new.writer c.end.new.emitted
    c.exit.new.emitted = record {
      inner_is = c.in_ok-inner.ensures;
      ended_is = c.in_ok-end.ensures;
      written_is = one_more;
      left_is = c.in_ok-exit.ensures ∙ ap (λ (n : ℕ). onto c.clause_at.new.writer.draft.emitted (Piece.Exit n later))
          (c.clause_line.ensures a.writer.now.draft.tables.now);
    } in
    record {
      left = omega arith;
      tables = ap (λ (x : Writer). x.draft.tables) c.in_ok-clause_at.ensures ∙ v.invariant.tables;
      writer =
          clause_step others counted how
          ∙ ap (λ (cs : List ClauseBy). with_clauses cs a.targets w) (sym left)
          ∙ v.invariant.writer;
    }

pub else_at-returns : goal.else_at-returns
else_at-returns t c =
    let a = c.args in
    let u = a.writer.now.draft.tables.now in
    let w = c.first_branch.new.writer in
    let tables : w.draft.tables ≡ a.writer.now.draft.tables =
    ap (λ (x : Writer). x.draft.tables) c.in_ok-first_branch.ensures in
    let other : c.otherwise_at.new.writer ≡ after w (stmt_by u a.otherwise.now (around w c.in_ok-outer.outer) w.facts) =
    c.in_ok-otherwise_at.ensures ∙ ap (λ (b : Bor Tables). after w
    (stmt_by b.now a.otherwise.now (around w c.in_ok-outer.outer) w.facts)) tables in
    branch_ended u a.line (then_lay u a.line a.first.now a.test.now (map (stmt_by u) a.body.now))
    (stmt_by u a.otherwise.now) a.targets c.in_ok-outer.outer a.writer.now w c.otherwise_at.new.writer
    c.end.new.emitted c.in_ok-first_branch.ensures c.in_ok-outer.ensures other c.in_ok-end.ensures

pub otherwise_at-returns : goal.otherwise_at-returns
otherwise_at-returns t c =
    let v = c.branches in
    let o = c.statement.new.writer in
    let is : o ≡ after v.writer (stmt_by c.args.writer.now.draft.tables.now v.last.now
    (around v.writer v.inner) v.writer.facts) =
    c.in_ok-statement.ensures ∙ ap (λ (b : Bor Tables). after v.writer
    (stmt_by b.now v.last.now (around v.writer v.inner) v.writer.facts)) v.invariant.tables in
    ap (with_parts o) c.in_ok-end_blocks.ensures
    ∙ (ap (λ (z : Writer). with_parts z (shut v.blocks z.draft.emitted)) is
    ∙ v.invariant.writer)

pub otherwise_at-branches-preserved : goal.otherwise_at-branches-preserved
otherwise_at-branches-preserved t c =
    let u = c.args.writer.now.draft.tables.now in
    let v = c.branches in
    let i = c.in-IfElse in
    let next : Stmt = c.behind_else-last.result.now in
    let same : next ≡ i.field-4 = c.behind_else-last.ensures.is
    ∙ behind v.last.now i.line i.first i.test i.body i.field-4 i.is in
    let less = shorter v.last.now i.line i.first i.test i.body i.field-4 _ _ i.is c.behind_else-last.ensures.smaller in
    let laid : c.first_branch.new.writer ≡ branched i.line
    (then_lay u i.line i.first c.get.result.now (map (stmt_by u) c.as_slice.result.now)) v.inner v.writer =
    c.in_ok-first_branch.ensures ∙ ap (λ (b : Bor Tables). branched i.line
    (then_lay b.now i.line i.first c.get.result.now (map (stmt_by b.now) c.as_slice.result.now)) v.inner v.writer)
    v.invariant.tables in
    let rest = after c.first_branch.new.writer
    (stmt_by u next (around c.first_branch.new.writer c.in_ok-inner.inner) c.first_branch.new.writer.facts) in
    let more : suc v.blocks ≡ c.in_ok-blocks.blocks = omega (arith, c.in_ok-blocks.ensures) in
    record {
      tables = ap (λ (x : Writer). x.draft.tables) laid ∙ v.invariant.tables;
      writer = subst (λ n. with_parts rest (shut n rest.draft.emitted) ≡ after c.args.writer.now
          (stmt_by u c.args.otherwise.now (around c.args.writer.now c.args.targets) c.args.writer.now.facts)) more
          (branches u _ v.blocks v.inner c.in_ok-inner.inner v.writer c.first_branch.new.writer v.last.now next i.line
          i.first i.test c.get.result.now i.body c.as_slice.result.now
          v.invariant.writer (i.is ∙ ap (λ (z : Stmt). st.IfElse i.line i.first i.test i.body z) (sym same))
          c.get.ensures c.as_slice.ensures laid c.in_ok-inner.ensures);
      smaller = omega (arith, less, v.invariant.smaller);
    }
