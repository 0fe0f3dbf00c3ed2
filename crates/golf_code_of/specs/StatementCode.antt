-- The code of a statement, with one equation for each construct.
use Rattle.golf_syntax_trees.specs.declared.statements.Stmt.{Stmt}
use Rattle.golf_syntax_trees.specs.declared.statements.Clause.{Clause}
use Rattle.golf_syntax_trees.specs.declared.statements.Clause.TheOpen as S
use Rattle.golf_syntax_trees.specs.declared.statements.Clause.TheOpen.{Stmt-F, Clause-F}
use Rattle.golf_syntax_trees.specs.declared.statements.Clause.TheFolds.{fold-Stmt, fold-Clause}
use Rattle.golf_data.specs.declared.code.Instr.{Instr}
use Rattle.golf_code_of.specs.declared.tables.Tables.{Tables}
use Rattle.golf_code_of.specs.Statements.{StatementPart, block, simple_part, var_part, begin_part, return_part}
use Rattle.golf_code_of.specs.Statements.{break_part}
use Rattle.golf_code_of.specs.Statements.{continue_part, if_part, else_part}
use Rattle.golf_code_of.specs.Loops.{for_part}
use Rattle.golf_code_of.specs.Selects.{ClausePart, case_clause, default_clause, select_part}

abbrev pub clause_part_step : Tables → Clause-F ClausePart StatementPart → ClausePart
clause_part_step t (S.Case k c body) = case_clause t k c body
clause_part_step t (S.Default k body) = default_clause k body

abbrev pub stmt_part_step : Tables → Stmt-F ClausePart StatementPart → StatementPart
stmt_part_step t (S.Var v) = var_part t v.line v.name v.content
stmt_part_step t (S.Simple x) = simple_part t x
stmt_part_step t (S.Go l f xs) = begin_part t l Instr.Go f xs
stmt_part_step t (S.Defer l f xs) = begin_part t l Instr.Defer f xs
stmt_part_step t (S.Return l e) = return_part t l e
stmt_part_step t (S.Break l) = break_part l
stmt_part_step t (S.Continue l) = continue_part l
stmt_part_step t (S.Block l body) = block body
stmt_part_step t (S.If l first test body) = if_part t l first test body
stmt_part_step t (S.IfElse l first test body otherwise) = else_part t l first test body otherwise
stmt_part_step t (S.For l h body) = for_part t l h body
stmt_part_step t (S.Select l clauses) = select_part l clauses

unfoldable pub stmt_part : Tables → Stmt → StatementPart
stmt_part t = fold-Stmt ClausePart StatementPart (clause_part_step t) (stmt_part_step t)

unfoldable pub clause_part : Tables → Clause → ClausePart
clause_part t = fold-Clause ClausePart StatementPart (clause_part_step t) (stmt_part_step t)
