-- The code of a statement by its facts, with one equation for each construct.
use Rattle.golf_syntax_trees.specs.declared.statements.Stmt.{Stmt}
use Rattle.golf_syntax_trees.specs.declared.statements.Clause.{Clause}
use Rattle.golf_syntax_trees.specs.declared.statements.Clause.TheOpen as S
use Rattle.golf_syntax_trees.specs.declared.statements.Clause.TheOpen.{Stmt-F, Clause-F}
use Rattle.golf_syntax_trees.specs.declared.statements.Clause.TheFolds.{fold-Stmt, fold-Clause}
use Rattle.golf_data.specs.declared.code.Instr.{Instr}
use Rattle.golf_code_of.specs.declared.tables.Tables.{Tables}
use Rattle.golf_code_facts.specs.Statements.{LayBy, by_piece, in_order, simple_by, var_by, begin_lay, return_by}
use Rattle.golf_code_facts.specs.Statements.{break_lay, continue_lay, if_lay, else_lay}
use Rattle.golf_code_facts.specs.Loops.{for_lay}
use Rattle.golf_code_facts.specs.Selects.{ClauseBy, case_clause, default_clause, select_lay}

abbrev pub clause_by_step : Tables → Clause-F ClauseBy LayBy → ClauseBy
clause_by_step t (S.Case k c body) = case_clause t k c body
clause_by_step t (S.Default k body) = default_clause k body

abbrev pub stmt_by_step : Tables → Stmt-F ClauseBy LayBy → LayBy
stmt_by_step t (S.Var v) = by_piece (var_by t v.line v.content)
stmt_by_step t (S.Simple x) = by_piece (simple_by t x.line x.kind)
stmt_by_step t (S.Go l f xs) = begin_lay t l Instr.Go f xs
stmt_by_step t (S.Defer l f xs) = begin_lay t l Instr.Defer f xs
stmt_by_step t (S.Return l e) = by_piece (return_by t l e)
stmt_by_step t (S.Break l) = break_lay l
stmt_by_step t (S.Continue l) = continue_lay l
stmt_by_step t (S.Block l body) = in_order body
stmt_by_step t (S.If l first test body) = if_lay t l first test body
stmt_by_step t (S.IfElse l first test body otherwise) = else_lay t l first test body otherwise
stmt_by_step t (S.For l h body) = for_lay t l h body
stmt_by_step t (S.Select l clauses) = select_lay l clauses

unfoldable pub stmt_by : Tables → Stmt → LayBy
stmt_by t = fold-Stmt ClauseBy LayBy (clause_by_step t) (stmt_by_step t)

unfoldable pub clause_by : Tables → Clause → ClauseBy
clause_by t = fold-Clause ClauseBy LayBy (clause_by_step t) (stmt_by_step t)
