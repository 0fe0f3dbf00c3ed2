use Rattle.std.proofs.Common.{◌≡◌, map, drop, length}
use Rattle.golf_code_of.specs.Calls.{pushes}
use Rattle.golf_code_facts.specs.Facts.{skip_all}
use Rattle.golf_code_facts.specs.Expressions.{taking, arguments}
use Rattle.golf_code_expressions.specs.WriterClauses.{with_piece}
use Rattle.golf_code_statements.proofs.begins.pushed.Given as goal

abbrev pub invariant-loop-x : goal.invariant-loop-x
invariant-loop-x l =
    let t = l.fn.writer.draft.tables.now in
    record {
      tables : l.writer.draft.tables ≡ l.fn.writer.draft.tables;
      facts : skip_all (length (drop l.x-index l.xs)) l.writer.facts ≡ skip_all (length l.xs) l.fn.writer.facts;
      draft : with_piece l.writer.draft (pushes
          (arguments l.line (map (taking t) (drop l.x-index l.xs)) l.writer.facts)) ≡ with_piece l.fn.writer.draft
          (pushes (arguments l.line (map (taking t) l.xs) l.fn.writer.facts));
    }
