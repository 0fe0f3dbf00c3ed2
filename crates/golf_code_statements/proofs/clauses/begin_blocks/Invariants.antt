use Rattle.std.proofs.Common.{◌≡◌}
use Rattle.golf_code_statements.specs.Clauses.{opened}
use Rattle.golf_code_statements.proofs.clauses.begin_blocks.Given as goal

abbrev pub invariant-loop : goal.invariant-loop
invariant-loop l = l.emitted ≡ opened l.counter l.fn.emitted
