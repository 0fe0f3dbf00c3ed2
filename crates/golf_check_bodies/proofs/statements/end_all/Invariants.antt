use Rattle.std.proofs.Common.{◌≡◌, length}
use Rattle.golf_syntax_trees.specs.Spines.{risen}
use Rattle.golf_check_types.specs.Scopes.{closed_to}
use Rattle.golf_check_bodies.proofs.statements.end_all.Given as goal

abbrev pub invariant-loop-mark : goal.invariant-loop-mark
invariant-loop-mark l = risen closed_to l.marks l.scope ≡ risen closed_to l.fn.marks l.fn.scope

abbrev pub decreases-loop-mark : goal.decreases-loop-mark
decreases-loop-mark l = length l.marks
