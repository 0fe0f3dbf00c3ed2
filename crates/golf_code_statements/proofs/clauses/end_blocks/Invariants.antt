use Rattle.std.proofs.Common.{◌≡◌}
use Rattle.golf_code_statements.specs.Branches.{shut}
use Rattle.golf_code_statements.proofs.clauses.end_blocks.Given as goal

abbrev pub invariant-loop : goal.invariant-loop
invariant-loop l = l.emitted ≡ shut l.counter l.fn.emitted
