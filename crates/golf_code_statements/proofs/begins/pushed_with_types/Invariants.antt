use Rattle.std.proofs.Common.{◌≡◌, ◌++◌, map, drop, length}
use Rattle.golf_check_types.specs.Types.{given, type_given}
use Rattle.golf_code_of.specs.Calls.{ArgumentCode, pushes}
use Rattle.golf_code_facts.specs.Facts.{skip_all}
use Rattle.golf_code_facts.specs.Expressions.{taking, arguments}
use Rattle.golf_code_expressions.specs.WriterClauses.{with_piece}
use Rattle.golf_code_statements.proofs.begins.pushed_with_types.Given as goal

abbrev pub invariant-loop-x : goal.invariant-loop-x
invariant-loop-x l =
    let t = l.fn.writer.draft.tables.now in
    let rest = arguments l.line (map (taking t) (drop l.x-index l.xs)) l.writer.facts in
    let whole = arguments l.line (map (taking t) l.xs) l.fn.writer.facts in
    record {
      tables : l.writer.draft.tables ≡ l.fn.writer.draft.tables;
      facts : skip_all (length (drop l.x-index l.xs)) l.writer.facts ≡ skip_all (length l.xs) l.fn.writer.facts;
      types : l.types ++ map (λ (y : ArgumentCode). type_given (given y.meaning)) rest ≡ l.fn.types
          ++ map (λ (y : ArgumentCode). type_given (given y.meaning)) whole;
      draft : with_piece l.writer.draft (pushes rest) ≡ with_piece l.fn.writer.draft (pushes whole);
    }
