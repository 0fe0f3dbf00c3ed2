use Rattle.std.proofs.Common.{◌≡◌, ◌+◌, ◌*◌, length}
use Rattle.golf_syntax_statements.specs.StatementReader.{OfStmt, stmt_at}
use Rattle.golf_syntax_statements.specs.Moves.{move_at, waited, weight}
use Rattle.golf_syntax_statements.proofs.statements.read.Given as goal

-- what waits goes on with what is read next
abbrev pub invariant-moves : goal.invariant-moves
invariant-moves l = waited l.waiting (move_at l.now l.rest) ≡ stmt_at OfStmt l.fn.tokens

abbrev pub decreases-moves : goal.decreases-moves
decreases-moves l = weight l.now + 8 * length l.rest + 3 * length l.waiting
