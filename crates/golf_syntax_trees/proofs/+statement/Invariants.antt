use Rattle.std.proofs.Common.{◌≤◌}
use Rattle.golf_syntax_trees.specs.declared.statements.Stmt.{size-Stmt}
use Rattle.golf_syntax_trees.proofs.+statement.Given as goal

abbrev pub invariant-statements::Stmt::drop-loop-self : goal.invariant-statements::Stmt::drop-loop-self
invariant-statements::Stmt::drop-loop-self l = size-Stmt l.self ≤ size-Stmt l.fn.self
