use Rattle.std.proofs.Common.{◌≡◌, ◌++◌, map, drop}
use Rattle.golf_code_of.specs.declared.tables.Tables.{Tables}
use Rattle.golf_code_facts.specs.Selects.{cases_from, default_from}
use Rattle.golf_code_facts.specs.StatementCode.{clause_by}
use Rattle.golf_code_statements.specs.Clauses.{first_of}
use Rattle.golf_code_statements.proofs.clauses.choice_from.Given as goal

abbrev pub invariant-loop-clause : goal.invariant-loop-clause
invariant-loop-clause l =
    record {
      number : l.number ≡ l.clause-index;
      cases : (t : Tables) → l.choice.cases ++ cases_from l.clause-index
          (map (clause_by t) (drop l.clause-index l.clauses)) ≡ cases_from 0 (map (clause_by t) l.clauses);
      otherwise : (t : Tables) → first_of l.choice.otherwise
          (default_from l.clause-index (map (clause_by t) (drop l.clause-index l.clauses))) ≡ default_from 0
          (map (clause_by t) l.clauses);
    }
