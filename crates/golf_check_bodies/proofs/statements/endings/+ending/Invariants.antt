use Rattle.std.proofs.Common.{◌≡◌, ◌≤◌, ◌+◌, ◌*◌, not, ◌&&◌, ◌||◌, map, drop}
use Rattle.std.specs.List.{list_all}
use Rattle.golf_syntax_trees.specs.declared.statements.Stmt.{size-Stmt}
use Rattle.golf_syntax_trees.specs.declared.statements.Clause.{size-Clause}
use Rattle.golf_check_types.specs.Endings.{along, of_all, ending, clause_ending}
use Rattle.golf_check_bodies.proofs.statements.endings.+ending.Given as goal

abbrev pub invariant-all_ending-loop-stmt : goal.invariant-all_ending-loop-stmt
invariant-all_ending-loop-stmt l = along l.found (map ending (drop l.stmt-index l.stmts)) ≡ of_all (map ending l.stmts)

abbrev pub invariant-clauses_end-loop-clause : goal.invariant-clauses_end-loop-clause
invariant-clauses_end-loop-clause l = list_all (λ c. c.ends && not c.breaks)
    (map clause_ending (drop l.clause-index l.clauses)) ≡ list_all (λ c. c.ends && not c.breaks)
    (map clause_ending l.clauses)

-- the branches so far, and then the statement behind the last `else`
abbrev pub invariant-otherwise_at-branches : goal.invariant-otherwise_at-branches
invariant-otherwise_at-branches l = record {
  ends : (l.found.ends && (ending l.last).ends) ≡ (ending l.fn.otherwise).ends;
  breaks : (l.found.breaks || (ending l.last).breaks) ≡ (ending l.fn.otherwise).breaks;
  smaller : size-Stmt l.last ≤ size-Stmt l.fn.otherwise;
}

abbrev pub decreases-otherwise_at-branches : goal.decreases-otherwise_at-branches
decreases-otherwise_at-branches l = size-Stmt l.last

abbrev pub decreases-ending_at : goal.decreases-ending_at
decreases-ending_at l = 4 * size-Stmt l.stmt.now

abbrev pub decreases-otherwise_at : goal.decreases-otherwise_at
decreases-otherwise_at l = 4 * size-Stmt l.otherwise.now + 2

abbrev pub decreases-all_ending : goal.decreases-all_ending
decreases-all_ending l = 4 * goal.size-all_ending l + 1

abbrev pub decreases-clause_at : goal.decreases-clause_at
decreases-clause_at l = 4 * size-Clause l.clause.now + 1

abbrev pub decreases-clauses_end : goal.decreases-clauses_end
decreases-clauses_end l = 4 * goal.size-clauses_end l + 2
