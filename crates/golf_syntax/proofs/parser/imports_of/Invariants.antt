use Rattle.std.proofs.Common.{length, map}
use Rattle.golf_syntax_trees.specs.Words.{closed, SpellsWords}
use Rattle.golf_syntax_trees.specs.Declarations.{print_import}
use Rattle.golf_syntax.proofs.parser.imports_of.Given as goal

-- the imports so far are printed before what is left
abbrev pub invariant-segments : goal.invariant-segments
invariant-segments l = SpellsWords (closed (map print_import l.imports)) l.fn.tokens l.left

abbrev pub decreases-segments : goal.decreases-segments
decreases-segments l = length l.left
