use Rattle.std.proofs.Common.{◌≡◌, ◌≤◌, ◌+◌, ◌*◌, max, drop}
use Rattle.std.specs.Prelude.{flat_map}
use Rattle.golf_syntax_trees.specs.declared.statements.Stmt.{size-Stmt}
use Rattle.golf_syntax_trees.specs.declared.statements.Clause.{size-Clause}
use Rattle.golf_code_of.specs.Texts.{stmt_texts}
use Rattle.golf_code_of.proofs.TextEquations.{clause_texts}
use Rattle.golf_code_texts.specs.AddedTexts.{with_texts}
use Rattle.golf_code_texts.proofs.statements.+walking.Given as goal

abbrev pub invariant-stmts-loop-stmt : goal.invariant-stmts-loop-stmt
invariant-stmts-loop-stmt l = with_texts l.table (flat_map stmt_texts (drop l.stmt-index l.body))
    ≡ with_texts l.fn.table (flat_map stmt_texts l.body)

abbrev pub invariant-clauses-loop-c : goal.invariant-clauses-loop-c
invariant-clauses-loop-c l = with_texts l.table (flat_map clause_texts (drop l.c-index l.cs)) ≡ with_texts l.fn.table
    (flat_map clause_texts l.cs)

abbrev pub decreases-statement : goal.decreases-statement
decreases-statement l = 8 * size-Stmt l.stmt.now

abbrev pub decreases-clause : goal.decreases-clause
decreases-clause l = 8 * size-Clause l.clause.now

abbrev pub decreases-stmts : goal.decreases-stmts
decreases-stmts l = 8 * goal.size-stmts l + 1

abbrev pub decreases-clauses : goal.decreases-clauses
decreases-clauses l = 8 * goal.size-clauses l + 1

abbrev pub decreases-tested : goal.decreases-tested
decreases-tested l = 8 * goal.size-tested l + 2

abbrev pub decreases-looped : goal.decreases-looped
decreases-looped l = 8 * goal.size-looped l + 2

abbrev pub decreases-case : goal.decreases-case
decreases-case l = 8 * goal.size-case l + 2

abbrev pub decreases-both_parts : goal.decreases-both_parts
decreases-both_parts l = 8 * max (goal.size-both_parts l) (size-Stmt l.otherwise.now) + 4

-- the texts of the branches so far are added
abbrev pub invariant-otherwise_at-branches : goal.invariant-otherwise_at-branches
invariant-otherwise_at-branches l = record {
  texts : with_texts l.table (stmt_texts l.last) ≡ with_texts l.fn.table (stmt_texts l.fn.otherwise);
  smaller : size-Stmt l.last ≤ size-Stmt l.fn.otherwise;
}

abbrev pub decreases-otherwise_at-branches : goal.decreases-otherwise_at-branches
decreases-otherwise_at-branches l = size-Stmt l.last

abbrev pub decreases-otherwise_at : goal.decreases-otherwise_at
decreases-otherwise_at l = 8 * size-Stmt l.otherwise.now + 3
