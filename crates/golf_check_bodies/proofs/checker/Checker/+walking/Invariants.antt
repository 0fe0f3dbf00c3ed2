use Rattle.std.proofs.Common.{◌≡◌, ◌≤◌, ◌++◌, ◌+◌, ◌*◌, max, map, drop}
use Rattle.golf_syntax_trees.specs.declared.statements.Stmt.{size-Stmt}
use Rattle.golf_syntax_trees.specs.declared.statements.Clause.{size-Clause}
use Rattle.golf_check_types.specs.Statements.{in_order, behind, walk, walk_clause_at}
use Rattle.golf_check_bodies.proofs.Branches.{Behind}
use Rattle.golf_check_bodies.proofs.checker.Checker.+walking.Given as goal

abbrev pub invariant-statements-loop-stmt : goal.invariant-statements-loop-stmt
invariant-statements-loop-stmt l =
    let all = in_order (map walk l.stmts) l.fn.self.scope in
    let rest = in_order (map walk (drop l.stmt-index l.stmts)) l.self.scope in
    record {
      faults : rest.faults ≡ all.faults;
      scope : behind l.self.scope rest ≡ behind l.fn.self.scope all;
      facts : l.self.facts ++ rest.facts ≡ l.fn.self.facts ++ all.facts;
    }

abbrev pub invariant-select_statement-loop-clause : goal.invariant-select_statement-loop-clause
invariant-select_statement-loop-clause l =
    let all = in_order (map (walk_clause_at l.line) l.clauses) l.fn.self.scope in
    let rest = in_order (map (walk_clause_at l.line) (drop l.clause-index l.clauses)) l.self.scope in
    record {
      faults : rest.faults ≡ all.faults;
      scope : behind l.self.scope rest ≡ behind l.fn.self.scope all;
      facts : l.self.facts ++ rest.facts ≡ l.fn.self.facts ++ all.facts;
    }

abbrev pub decreases-statement : goal.decreases-statement
decreases-statement l = 16 * size-Stmt l.stmt.now

abbrev pub decreases-statements : goal.decreases-statements
decreases-statements l = 16 * goal.size-statements l + 1

abbrev pub decreases-block : goal.decreases-block
decreases-block l = 16 * goal.size-block l + 2

abbrev pub decreases-loop_body : goal.decreases-loop_body
decreases-loop_body l = 16 * goal.size-loop_body l + 3

abbrev pub decreases-then_branch : goal.decreases-then_branch
decreases-then_branch l = 16 * goal.size-then_branch l + 4

abbrev pub decreases-if_statement : goal.decreases-if_statement
decreases-if_statement l = 16 * goal.size-if_statement l + 5

abbrev pub decreases-if_else : goal.decreases-if_else
decreases-if_else l = 16 * max (goal.size-if_else l) (size-Stmt l.otherwise.now) + 6

abbrev pub decreases-for_clause : goal.decreases-for_clause
decreases-for_clause l = 16 * goal.size-for_clause l + 4

abbrev pub decreases-range_clause : goal.decreases-range_clause
decreases-range_clause l = 16 * goal.size-range_clause l + 4

abbrev pub decreases-for_header : goal.decreases-for_header
decreases-for_header l = 16 * goal.size-for_header l + 5

abbrev pub decreases-for_statement : goal.decreases-for_statement
decreases-for_statement l = 16 * goal.size-for_statement l + 6

abbrev pub decreases-clause_body : goal.decreases-clause_body
decreases-clause_body l = 16 * goal.size-clause_body l + 2

abbrev pub decreases-case : goal.decreases-case
decreases-case l = 16 * goal.size-case l + 3

abbrev pub decreases-default_clause : goal.decreases-default_clause
decreases-default_clause l = 16 * goal.size-default_clause l + 3

abbrev pub decreases-select_statement : goal.decreases-select_statement
decreases-select_statement l = 16 * goal.size-select_statement l + 2

abbrev pub decreases-clause : goal.decreases-clause
decreases-clause l = 16 * size-Clause l.clause.now + 1

-- the branches so far keep the rules, and the statement behind the last `else` goes on
abbrev pub invariant-otherwise-branches : goal.invariant-otherwise-branches
invariant-otherwise-branches l = record {
  walks : Behind l.fn.otherwise l.fn.self.scope l.fn.self.facts l.last l.self.scope l.self.facts l.marks;
  smaller : size-Stmt l.last ≤ size-Stmt l.fn.otherwise;
}

abbrev pub decreases-otherwise-branches : goal.decreases-otherwise-branches
decreases-otherwise-branches l = size-Stmt l.last

abbrev pub decreases-otherwise : goal.decreases-otherwise
decreases-otherwise l = 16 * size-Stmt l.otherwise.now + 5
