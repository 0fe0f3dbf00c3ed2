-- The law of statements, as a statement.
use Rattle.golf_syntax_trees.specs.declared.statements.Stmt.{Stmt}
use Rattle.golf_code_of.specs.declared.tables.Tables.{Tables}
use Rattle.golf_code_of.specs.StatementCode.{stmt_part}
use Rattle.golf_meaning_statements.specs.Statements.{step}
use Rattle.golf_meaning_statements.specs.Follows.{StatementMeans}
use Rattle.golf_meaning_source.specs.Operations.{Taking}

module _ (taking : Taking) where
  abbrev pub StatementsMean : Type 0
  StatementsMean = (t : Tables) (x : Stmt)
      → StatementMeans taking (stmt_part t x).walk (stmt_part t x).lay (step taking t x).deed
