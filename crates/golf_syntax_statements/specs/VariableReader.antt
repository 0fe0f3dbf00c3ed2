-- How a variable is read (Go specification, "Variable declarations").
use Rattle.std.specs.Prelude.{ℕ, false, List, Option, Some, None}
use Rattle.golf_lex_tokens.specs.declared.token.Token.{Token}
use Rattle.golf_lex_tokens.specs.declared.token.Punctuation.TheVariants as punctuations
use Rattle.golf_syntax_trees.specs.declared.types.TypeExpr.{TypeExpr}
use Rattle.golf_syntax_trees.specs.declared.statements.Var.{Var}
use Rattle.golf_syntax_trees.specs.declared.statements.VarContent.{VarContent}
use Rattle.golf_syntax_trees.specs.declared.statements.VarContent.TheVariants as content
use Rattle.golf_syntax_expressions.specs.Plan.{◌>>=◌}
use Rattle.golf_syntax_expressions.specs.Front.{after, name_at}
use Rattle.golf_syntax_expressions.specs.TypeReader.{type_at, OfType}
use Rattle.golf_syntax_expressions.specs.ExpressionReader.{Level, expr_at}

abbrev pub FoundVariable : Type 0
FoundVariable = Option (VarContent × List Token)

-- after a type: a value, or nothing
abbrev pub typed_by : TypeExpr → List Token → Option (List Token) → FoundVariable
typed_by t ts (Some us) = expr_at (Level false 1) us >>= λ v. Some (content.Typed t v.0, v.1)
typed_by t ts None = Some (content.Zero t, ts)

abbrev pub untyped : List Token → FoundVariable
untyped ts = after punctuations.Assign ts >>= λ us. expr_at (Level false 1) us >>= λ v. Some (content.Untyped v.0, v.1)

abbrev pub content_by : List Token → Option (TypeExpr × List Token) → FoundVariable
content_by ts (Some t) = typed_by t.0 t.1 (after punctuations.Assign t.1)
content_by ts None = untyped ts

-- the type and the value of a variable, after its name
unfoldable pub content_at : List Token → FoundVariable
content_at ts = content_by ts (type_at OfType ts)

-- a variable after its keyword, which is on this line
unfoldable pub var_at : ℕ → List Token → Option (Var × List Token)
var_at l ts = name_at ts >>= λ n. content_at n.1 >>= λ c. Some (record { line = l; name = n.0; content = c.0 }, c.1)
