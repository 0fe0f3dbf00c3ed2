-- How the headers of `if` and `for` are read (Go specification, "If statements", "For statements").
use Rattle.std.specs.Prelude.{true, cond, List, ℕ, Option, Some, None}
use Rattle.golf_lex_tokens.specs.declared.token.Token.{Token}
use Rattle.golf_lex_tokens.specs.declared.token.Punctuation.TheVariants as punctuations
use Rattle.golf_lex_tokens.specs.declared.token.Keyword.TheVariants as keywords
use Rattle.golf_syntax_trees.specs.declared.expressions.Expr.{Expr}
use Rattle.golf_syntax_trees.specs.declared.statements.Simple.{Simple}
use Rattle.golf_syntax_trees.specs.declared.statements.SimpleKind.{SimpleKind}
use Rattle.golf_syntax_trees.specs.declared.statements.SimpleKind.TheVariants as s
use Rattle.golf_syntax_trees.specs.declared.statements.Header.{Header}
use Rattle.golf_syntax_trees.specs.declared.statements.Header.TheVariants as headers
use Rattle.golf_syntax_trees.specs.declared.statements.RangeNames.{RangeNames}
use Rattle.golf_syntax_trees.specs.declared.statements.RangeNames.TheVariants as names
use Rattle.golf_syntax_trees.specs.Simple.{simple_form}
use Rattle.golf_syntax_expressions.specs.Plan.{◌>>=◌}
use Rattle.golf_syntax_expressions.specs.Front.{after, after_keyword, name_at}
use Rattle.golf_syntax_expressions.specs.ExpressionReader.{Level, expr_at}
use Rattle.golf_syntax_expressions.specs.SimpleStatementReader.{simple_at}

-- the expression of a simple statement, if it is one
abbrev pub expression_of : SimpleKind → Option Expr
expression_of (s.Expression e) = Some e
expression_of _ = None

-- a condition, with the simple statement before it, if there is one
abbrev pub Test : Type 0
Test = Option Simple × Expr

abbrev pub test_by : Simple → List Token → Option (List Token) → Option (Test × List Token)
test_by x ts (Some us) = expr_at (Level true 1) us >>= λ e. Some ((Some x, e.0), e.1)
test_by x ts None = expression_of x.kind >>= λ e. Some ((None, e), ts)

-- the header of an `if`
unfoldable pub test_at : List Token → Option (Test × List Token)
test_at ts = simple_at true ts >>= λ x. test_by x.0 x.1 (after punctuations.Semicolon x.1)

-- the second of two names before a `range`
abbrev pub two_names : List ℕ → List Token → Option (RangeNames × List Token)
two_names n ts = name_at ts >>= λ m. after punctuations.Define m.1 >>= λ us. after_keyword keywords.Range us >>=
    λ vs. Some (names.Two n m.0, vs)

abbrev pub names_behind : List ℕ → Option (List Token) → Option (List Token) → Option (RangeNames × List Token)
names_behind n (Some us) comma = after_keyword keywords.Range us >>= λ vs. Some (names.One n, vs)
names_behind n None (Some us) = two_names n us
names_behind n None None = None

abbrev pub names_by : List Token → Option (List Token) → Option (RangeNames × List Token)
names_by ts (Some us) = Some (names.Neither, us)
names_by ts None = name_at ts >>= λ n. names_behind n.0 (after punctuations.Define n.1) (after punctuations.Comma n.1)

-- the names before a `range`, and the tokens after that keyword
unfoldable pub names_at : List Token → Option (RangeNames × List Token)
names_at ts = names_by ts (after_keyword keywords.Range ts)

abbrev pub FoundHeader : Type 0
FoundHeader = Option (Header × List Token)

-- A post statement has no `:=`.
abbrev pub post_by : Option Simple → Option Expr → List Token → Option (Simple × List Token) → FoundHeader
post_by first test ts None = Some (headers.Steps first test None, ts)
post_by first test ts (Some x) = cond (simple_form x.0.kind).defines None
    (Some (headers.Steps first test (Some x.0), x.1))

unfoldable pub post_at : Option Simple → Option Expr → List Token → FoundHeader
post_at first test ts = after punctuations.Semicolon ts >>= λ us. post_by first test us (simple_at true us)

abbrev pub steps_by : Option Simple → List Token → Option (Expr × List Token) → FoundHeader
steps_by first ts None = post_at first None ts
steps_by first ts (Some e) = post_at first (Some e.0) e.1

-- a three-part header, after its first semicolon
unfoldable pub steps_at : Option Simple → List Token → FoundHeader
steps_at first ts = steps_by first ts (expr_at (Level true 1) ts)

abbrev pub empty_by : List Token → Option (List Token) → FoundHeader
empty_by ts (Some us) = steps_at None us
empty_by ts None = Some (headers.Forever, ts)

abbrev pub first_by : Simple → List Token → Option (List Token) → FoundHeader
first_by x ts (Some us) = steps_at (Some x) us
first_by x ts None = expression_of x.kind >>= λ e. Some (headers.While e, ts)

abbrev pub without_range_by : List Token → Option (Simple × List Token) → FoundHeader
without_range_by ts None = empty_by ts (after punctuations.Semicolon ts)
without_range_by ts (Some x) = first_by x.0 x.1 (after punctuations.Semicolon x.1)

-- a header without `range`
unfoldable pub without_range_at : List Token → FoundHeader
without_range_at ts = without_range_by ts (simple_at true ts)

abbrev pub header_by : List Token → Option (RangeNames × List Token) → FoundHeader
header_by ts None = without_range_at ts
header_by ts (Some n) = expr_at (Level true 1) n.1 >>= λ e. Some (headers.Range n.0 e.0, e.1)

-- the header of a `for`
unfoldable pub header_at : List Token → FoundHeader
header_at ts = header_by ts (names_at ts)
