-- The laws of code by facts, as statements: it is the code of `golf_code_of`, for all trees, even for those that break
-- rules.
use Rattle.std.specs.Prelude.{◌≡◌, ℕ, List, ◌++◌}
use Rattle.golf_syntax_trees.specs.declared.expressions.Expr.{Expr}
use Rattle.golf_syntax_trees.specs.declared.statements.Stmt.{Stmt}
use Rattle.golf_syntax_trees.specs.declared.declarations.File.{File}
use Rattle.golf_check_types.specs.declared.facts.Fact.{Fact}
use Rattle.golf_check_types.specs.declared.scopes.Scope.{Scope}
use Rattle.golf_check_types.specs.Expressions.{facts_of}
use Rattle.golf_check_types.specs.Judgments.{judge_at}
use Rattle.golf_check_types.specs.Statements.{walk}
use Rattle.golf_check_types.specs.Files.{facts_in}
use Rattle.golf_code_of.specs.declared.surroundings.Around.{Around}
use Rattle.golf_code_of.specs.declared.tables.Tables.{Tables}
use Rattle.golf_code_of.specs.ExpressionCode.{code_at}
use Rattle.golf_code_of.specs.StatementCode.{stmt_part}
use Rattle.golf_code_of.specs.Files.{CodeOf}
use Rattle.golf_code_facts.specs.Facts.{skip}
use Rattle.golf_code_facts.specs.Expressions.{taken_at}
use Rattle.golf_code_facts.specs.Statements.{by}
use Rattle.golf_code_facts.specs.StatementCode.{stmt_by}
use Rattle.golf_code_facts.specs.Files.{CodeBy}

abbrev pub ExpressionsFollow : Type 0
ExpressionsFollow = (t : Tables) (l : ℕ) (s : Scope) (e : Expr) (rest : List Fact) →
    (taken_at t l (facts_of (judge_at l s e) ++ rest) e ≡ code_at t l s e)
    × (skip (facts_of (judge_at l s e) ++ rest) ≡ rest)

abbrev pub StatementsFollow : Type 0
StatementsFollow = (t : Tables) (x : Stmt) (a : Around) (s : Scope) (rest : List Fact)
    → stmt_by t x a ((walk x s).facts ++ rest) ≡ by ((stmt_part t x).lay a s) rest

abbrev pub FilesFollow : Type 0
FilesFollow = (file : File) → CodeBy file (facts_in file) ≡ CodeOf file
