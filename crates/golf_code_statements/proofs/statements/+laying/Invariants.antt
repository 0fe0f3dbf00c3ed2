use Rattle.std.proofs.Common.{◌≡◌, ◌≤◌, ◌+◌, ◌*◌, max, length, map, drop}
use Rattle.golf_syntax_trees.specs.declared.statements.Stmt.{size-Stmt}
use Rattle.golf_syntax_trees.specs.declared.statements.Clause.{size-Clause}
use Rattle.golf_code_facts.specs.Statements.{in_order}
use Rattle.golf_code_facts.specs.StatementCode.{stmt_by, clause_by}
use Rattle.golf_code_statements.specs.Clauses.{with_clauses}
use Rattle.golf_code_statements.specs.Lays.{around, after}
use Rattle.golf_code_statements.specs.Branches.{with_parts, shut}
use Rattle.golf_code_statements.proofs.statements.+laying.Given as goal

abbrev pub invariant-all-loop-stmt : goal.invariant-all-loop-stmt
invariant-all-loop-stmt l =
    let t = l.fn.writer.draft.tables.now in
    record {
      tables : l.writer.draft.tables ≡ l.fn.writer.draft.tables;
      writer : after l.writer (in_order (map (stmt_by t) (drop l.stmt-index l.stmts))
          (around l.writer l.targets) l.writer.facts) ≡ after l.fn.writer
          (in_order (map (stmt_by t) l.stmts) (around l.fn.writer l.targets) l.fn.writer.facts);
    }

abbrev pub invariant-clauses_at-loop-clause : goal.invariant-clauses_at-loop-clause
invariant-clauses_at-loop-clause l =
    let t = l.fn.writer.draft.tables.now in
    record {
      left : l.later + l.clause-index ≡ length l.clauses;
      tables : l.writer.draft.tables ≡ l.fn.writer.draft.tables;
      writer : with_clauses (map (clause_by t) (drop l.clause-index l.clauses)) l.targets l.writer ≡ with_clauses
          (map (clause_by t) l.clauses) l.targets l.fn.writer;
    }

abbrev pub decreases-statement : goal.decreases-statement
decreases-statement l = 16 * size-Stmt l.stmt.now

abbrev pub decreases-all : goal.decreases-all
decreases-all l = 16 * goal.size-all l + 1

abbrev pub decreases-tested : goal.decreases-tested
decreases-tested l = 16 * goal.size-tested l + 2

abbrev pub decreases-then_part : goal.decreases-then_part
decreases-then_part l = 16 * goal.size-then_part l + 3

abbrev pub decreases-if_at : goal.decreases-if_at
decreases-if_at l = 16 * goal.size-if_at l + 4

abbrev pub decreases-else_at : goal.decreases-else_at
decreases-else_at l = 16 * max (goal.size-else_at l) (size-Stmt l.otherwise.now) + 6

abbrev pub decreases-loop_body : goal.decreases-loop_body
decreases-loop_body l = 16 * goal.size-loop_body l + 2

abbrev pub decreases-forever : goal.decreases-forever
decreases-forever l = 16 * goal.size-forever l + 3

abbrev pub decreases-while_at : goal.decreases-while_at
decreases-while_at l = 16 * goal.size-while_at l + 3

abbrev pub decreases-stepping : goal.decreases-stepping
decreases-stepping l = 16 * goal.size-stepping l + 3

abbrev pub decreases-steps : goal.decreases-steps
decreases-steps l = 16 * goal.size-steps l + 4

abbrev pub decreases-over_slice : goal.decreases-over_slice
decreases-over_slice l = 16 * goal.size-over_slice l + 3

abbrev pub decreases-over_channel : goal.decreases-over_channel
decreases-over_channel l = 16 * goal.size-over_channel l + 3

abbrev pub decreases-range_at : goal.decreases-range_at
decreases-range_at l = 16 * goal.size-range_at l + 4

abbrev pub decreases-for_at : goal.decreases-for_at
decreases-for_at l = 16 * goal.size-for_at l + 5

abbrev pub decreases-case_at : goal.decreases-case_at
decreases-case_at l = 16 * goal.size-case_at l + 2

abbrev pub decreases-default_at : goal.decreases-default_at
decreases-default_at l = 16 * goal.size-default_at l + 2

abbrev pub decreases-clause_at : goal.decreases-clause_at
decreases-clause_at l = 16 * size-Clause l.clause.now + 1

abbrev pub decreases-clauses_at : goal.decreases-clauses_at
decreases-clauses_at l = 16 * goal.size-clauses_at l + 2

abbrev pub decreases-select_at : goal.decreases-select_at
decreases-select_at l = 16 * goal.size-select_at l + 3

abbrev pub decreases-first_branch : goal.decreases-first_branch
decreases-first_branch l = 16 * goal.size-first_branch l + 4

abbrev pub decreases-otherwise_at : goal.decreases-otherwise_at
decreases-otherwise_at l = 16 * size-Stmt l.otherwise.now + 5

-- the branches so far are written, and their outer blocks are open
abbrev pub invariant-otherwise_at-branches : goal.invariant-otherwise_at-branches
invariant-otherwise_at-branches l =
    let t = l.fn.writer.draft.tables.now in
    let rest = after l.writer (stmt_by t l.last (around l.writer l.inner) l.writer.facts) in
    record {
      tables : l.writer.draft.tables ≡ l.fn.writer.draft.tables;
      writer : with_parts rest (shut l.blocks rest.draft.emitted) ≡ after l.fn.writer
          (stmt_by t l.fn.otherwise (around l.fn.writer l.fn.targets) l.fn.writer.facts);
      smaller : size-Stmt l.last ≤ size-Stmt l.fn.otherwise;
    }

abbrev pub decreases-otherwise_at-branches : goal.decreases-otherwise_at-branches
decreases-otherwise_at-branches l = size-Stmt l.last
