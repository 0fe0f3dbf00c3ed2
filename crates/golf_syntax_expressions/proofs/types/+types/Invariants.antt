use Rattle.std.proofs.Common.{◌+◌, ◌*◌, length}
use Rattle.golf_syntax_expressions.proofs.types.+types.Given as goal

abbrev pub decreases-type_at : goal.decreases-type_at
decreases-type_at l = 3 * length l.tokens.now

abbrev pub decreases-type_from : goal.decreases-type_from
decreases-type_from l = 3 * length l.rest.now + 2

abbrev pub decreases-type_from_punctuation : goal.decreases-type_from_punctuation
decreases-type_from_punctuation l = 3 * length l.rest.now + 1

abbrev pub decreases-type_from_keyword : goal.decreases-type_from_keyword
decreases-type_from_keyword l = 3 * length l.rest.now + 1
