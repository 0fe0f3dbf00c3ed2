use Rattle.std.proofs.Common.{length}
use Rattle.golf_syntax.proofs.FileLaws.{Known}
use Rattle.golf_syntax.proofs.parser.declarations_of.Given as goal

-- the declarations so far are printed before what is left
abbrev pub invariant-segments : goal.invariant-segments
invariant-segments l = Known l.fn.tokens l.declarations l.left

abbrev pub decreases-segments : goal.decreases-segments
decreases-segments l = length l.left
