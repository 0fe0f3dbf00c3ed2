-- The laws of the definitions of code, as statements: they agree with the checker about the judgment of an expression
-- and about what is known after a statement.
use Rattle.std.specs.Prelude.{◌≡◌}
use Rattle.golf_syntax_trees.specs.declared.expressions.Expr.{Expr}
use Rattle.golf_syntax_trees.specs.declared.statements.Stmt.{Stmt}
use Rattle.golf_syntax_trees.specs.declared.statements.Clause.{Clause}
use Rattle.golf_check_types.specs.Judgments.{judge}
use Rattle.golf_check_types.specs.Statements.{walk, walk_clause}
use Rattle.golf_code_of.specs.declared.tables.Tables.{Tables}
use Rattle.golf_code_of.specs.ExpressionCode.{coded}
use Rattle.golf_code_of.specs.StatementCode.{stmt_part, clause_part}

abbrev pub JudgmentsAgree : Type 0
JudgmentsAgree = (t : Tables) (e : Expr) → (coded t e).judge ≡ judge e

pub record WalksAgree : Type 0 where
  pub statements : (t : Tables) (x : Stmt) → (stmt_part t x).walk ≡ walk x
  pub clauses : (t : Tables) (c : Clause) → (clause_part t c).walk ≡ walk_clause c
