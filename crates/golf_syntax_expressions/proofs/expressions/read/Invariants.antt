use Rattle.std.proofs.Common.{◌≡◌, ◌+◌, ◌*◌, length}
use Rattle.golf_syntax_expressions.specs.Moves.{goal_at, move_at, waited, weight}
use Rattle.golf_syntax_expressions.proofs.expressions.read.Given as goal

-- what waits goes on with what is read next
abbrev pub invariant-moves : goal.invariant-moves
invariant-moves l = waited l.waiting (move_at l.now l.rest) ≡ goal_at l.fn.goal l.fn.tokens

abbrev pub decreases-moves : goal.decreases-moves
decreases-moves l = weight l.now + 8 * length l.rest + 3 * length l.waiting
