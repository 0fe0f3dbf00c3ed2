-- What statements do, beside their code: one equation for each construct (Go specification, "Statements").
use Rattle.golf_syntax_trees.specs.declared.statements.Stmt.{Stmt}
use Rattle.golf_syntax_trees.specs.declared.statements.Clause.{Clause}
use Rattle.golf_syntax_trees.specs.declared.statements.Clause.TheOpen as S
use Rattle.golf_syntax_trees.specs.declared.statements.Clause.TheOpen.{Stmt-F, Clause-F}
use Rattle.golf_syntax_trees.specs.declared.statements.Clause.TheFolds.{fold-Stmt, fold-Clause, map-Stmt}
use Rattle.golf_data.specs.declared.code.Instr.{Instr}
use Rattle.golf_code_of.specs.declared.tables.Tables.{Tables}
use Rattle.golf_code_of.specs.Statements.{StatementPart}
use Rattle.golf_code_of.specs.Selects.{ClausePart}
use Rattle.golf_code_of.specs.StatementCode.{stmt_part_step}
use Rattle.golf_meaning_statements.specs.Flows.{Course, Flow}
use Rattle.golf_meaning_statements.specs.Steps.{Deed, Step, var_deed, simple_deed, return_deed, block, if_deed}
use Rattle.golf_meaning_statements.specs.Steps.{else_deed, for_deed, begin_deed}
use Rattle.golf_meaning_statements.specs.Selects.{ClauseStep, case_step, default_step, select_deed}
use Rattle.golf_meaning_source.specs.Operations.{Taking}

module _ (taking : Taking) where
  abbrev pub deed_step : Tables → Stmt-F ClauseStep Step → Deed
  deed_step t (S.Var v) = var_deed taking t v.line v.name v.content
  deed_step t (S.Simple x) = simple_deed taking t x
  deed_step t (S.Return l e) = return_deed taking t l e
  deed_step t (S.Break l) = λ a s n env w. Flow.Goes Course.Breaks env w
  deed_step t (S.Continue l) = λ a s n env w. Flow.Goes Course.Continues env w
  deed_step t (S.Block l body) = block body
  deed_step t (S.If l first test body) = if_deed taking t l first test body
  deed_step t (S.IfElse l first test body otherwise) = else_deed taking t l first test body otherwise
  deed_step t (S.For l h body) = for_deed taking t l h body
  deed_step t (S.Go l f xs) = begin_deed taking t l Instr.Go f xs
  deed_step t (S.Defer l f xs) = begin_deed taking t l Instr.Defer f xs
  deed_step t (S.Select l clauses) = select_deed taking l clauses

  abbrev pub step_step : Tables → Stmt-F ClauseStep Step → Step
  step_step t y = record {
    part = stmt_part_step t
        (map-Stmt ClauseStep Step ClausePart StatementPart (λ c. c.part) (λ x. x.part) y);
    deed = deed_step t y;
  }

  abbrev pub clause_step_step : Tables → Clause-F ClauseStep Step → ClauseStep
  clause_step_step t (S.Case k c body) = case_step taking t k c body
  clause_step_step t (S.Default k body) = default_step k body

  unfoldable pub step : Tables → Stmt → Step
  step t = fold-Stmt ClauseStep Step (clause_step_step t) (step_step t)

  unfoldable pub clause_step : Tables → Clause → ClauseStep
  clause_step t = fold-Clause ClauseStep Step (clause_step_step t) (step_step t)
