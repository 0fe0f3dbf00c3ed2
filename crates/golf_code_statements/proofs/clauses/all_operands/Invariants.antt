use Rattle.std.proofs.Common.{◌≡◌, map, drop}
use Rattle.golf_code_layout.specs.Piece.{all}
use Rattle.golf_code_facts.specs.Selects.{operands_all}
use Rattle.golf_code_facts.specs.StatementCode.{clause_by}
use Rattle.golf_code_expressions.specs.WriterClauses.{with_piece}
use Rattle.golf_code_statements.proofs.clauses.all_operands.Given as goal

abbrev pub invariant-loop-clause : goal.invariant-loop-clause
invariant-loop-clause l =
    let t = l.fn.writer.draft.tables.now in
    record {
      tables : l.writer.draft.tables ≡ l.fn.writer.draft.tables;
      draft : with_piece l.writer.draft (all
          (operands_all l.line (map (clause_by t) (drop l.clause-index l.clauses)) l.writer.facts))
          ≡ with_piece l.fn.writer.draft (all (operands_all l.line (map (clause_by t) l.clauses) l.fn.writer.facts));
    }
