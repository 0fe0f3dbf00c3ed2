-- The laws of the meaning of sources, as statements.
use Rattle.std.specs.Prelude.{ℕ, List}
use Rattle.golf_data.specs.declared.value.Value.{Value}
use Rattle.golf_syntax_trees.specs.declared.expressions.Expr.{Expr}
use Rattle.golf_check_types.specs.declared.scopes.Scope.{Scope}
use Rattle.golf_code_of.specs.declared.tables.Tables.{Tables}
use Rattle.golf_code_of.specs.Expressions.{Made}
use Rattle.golf_code_of.specs.ExpressionCode.{coded}
use Rattle.golf_meaning_source.specs.Names.{Env}
use Rattle.golf_meaning_source.specs.Operations.{Taking}
use Rattle.golf_meaning_source.specs.Exprs.{Does}
use Rattle.golf_meaning_source.specs.ExpressionMeaning.{meant}
use Rattle.golf_meaning_source.specs.Does.{Matches, Known}

module _ (taking : Taking) where
  -- if the known names have their values in their slots, the code of an expression does what the expression does
  abbrev pub ExpressionMeans : (ℕ → Scope → Does) → (ℕ → Scope → Made) → Type 0
  ExpressionMeans d c = (l : ℕ) (s : Scope) (env : Env) (slots : List Value) → Known s.locals s.next env slots
      → Matches taking s.locals slots env ((d l s).value env) ((d l s).place env) ((d l s).parts env) (c l s)

  abbrev pub ExpressionsMean : Type 0
  ExpressionsMean = (t : Tables) (e : Expr) → ExpressionMeans (meant taking t e).does (coded t e).code
