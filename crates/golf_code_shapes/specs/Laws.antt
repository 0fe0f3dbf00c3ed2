-- The laws of the code of a file, as statements: code that breaks no rule has shapes.
use Rattle.std.specs.Prelude.{◌≡◌, ℕ, true, List, []}
use Rattle.golf_syntax_trees.specs.declared.expressions.Expr.{Expr}
use Rattle.golf_syntax_trees.specs.declared.statements.Stmt.{Stmt}
use Rattle.golf_syntax_trees.specs.Statements.{stmt_form}
use Rattle.golf_check_types.specs.declared.scopes.Scope.{Scope}
use Rattle.golf_check_types.specs.Judgments.{Judge, judge}
use Rattle.golf_check_types.specs.Statements.{walk}
use Rattle.golf_model_typing.specs.Types.{FunctionTypes, Types}
use Rattle.golf_code_of.specs.declared.tables.Tables.{Tables}
use Rattle.golf_code_of.specs.Expressions.{Made}
use Rattle.golf_code_of.specs.ExpressionCode.{coded}
use Rattle.golf_code_of.specs.StatementCode.{stmt_part}
use Rattle.golf_code_shapes.specs.StatementFlow.{StatementFits}
use Rattle.golf_code_shapes.specs.Sound.{ScopeFits, Shown}

-- the code of an expression that breaks no rule does what its judgment says, if the names of a scope mean what the
-- types of the code say
abbrev pub ExpressionFits : Types → Tables → FunctionTypes → Judge → (ℕ → Scope → Made) → Type 0
ExpressionFits types t ft j c = (l : ℕ) (s : Scope) (assigned : List ℕ) → ScopeFits types t ft assigned s
    → (j l s).faults ≡ [] → Shown types t ft assigned s.file (j l s).meaning (c l s)

abbrev pub ExpressionsFit : Type 0
ExpressionsFit = (types : Types) (t : Tables) (ft : FunctionTypes) (e : Expr)
    → ExpressionFits types t ft (judge e) (coded t e).code

-- the same for a well-formed statement: its code leads on
abbrev pub StatementsFit : Type 0
StatementsFit = (types : Types) (t : Tables) (ft : FunctionTypes) (x : Stmt) → (stmt_form x).good ≡ true
    → StatementFits types t ft (walk x) (stmt_part t x).lay
