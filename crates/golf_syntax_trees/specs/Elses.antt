-- The `else` of an `if`.
use Rattle.std.specs.Prelude.{ℕ, ◌<◌, List}
use Rattle.golf_syntax_trees.specs.declared.statements.Stmt.{Stmt, out-Stmt}
use Rattle.golf_syntax_trees.specs.declared.statements.Clause.{Clause}
use Rattle.golf_syntax_trees.specs.declared.statements.Clause.TheOpen.{Stmt-F, IfElse}

abbrev pub else_in : Stmt → Stmt-F Clause Stmt → Stmt
else_in s (IfElse l first test body otherwise) = otherwise
else_in s _ = s

-- the statement after the `else`, or the statement itself if it has none
unfoldable pub else_of : Stmt → Stmt
else_of s = else_in s (out-Stmt s)

-- the statement after an `else` is smaller than the whole
abbrev pub IsShorter : Stmt-F Clause Stmt → ℕ → ℕ → Type 0
IsShorter (IfElse l first test body otherwise) m n = m < n
IsShorter _ m n = Unit {0}
