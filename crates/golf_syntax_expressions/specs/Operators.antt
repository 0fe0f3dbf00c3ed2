-- Operators at the front of tokens.
use Rattle.std.specs.Prelude.{List, [], ◌∷◌, Option, Some, None}
use Rattle.golf_lex_tokens.specs.declared.token.Token.{Token}
use Rattle.golf_lex_tokens.specs.declared.token.TokenKind.{TokenKind}
use Rattle.golf_lex_tokens.specs.declared.token.TokenKind.TheVariants as kinds
use Rattle.golf_lex_tokens.specs.declared.token.Punctuation.{Punctuation}
use Rattle.golf_lex_tokens.specs.declared.token.Punctuation.TheVariants as punctuations
use Rattle.golf_syntax_trees.specs.declared.expressions.UnaryOperator.{UnaryOperator}
use Rattle.golf_syntax_trees.specs.declared.expressions.UnaryOperator.TheVariants as unary
use Rattle.golf_syntax_trees.specs.declared.expressions.BinaryOperator.{BinaryOperator}
use Rattle.golf_syntax_trees.specs.declared.expressions.BinaryOperator.TheVariants as binary
use Rattle.golf_syntax_expressions.specs.Plan.{◌>>=◌}

abbrev pub unary_of : Punctuation → Option UnaryOperator
unary_of punctuations.Minus = Some unary.Negate
unary_of punctuations.Not = Some unary.Not
unary_of punctuations.Arrow = Some unary.Receive
unary_of _ = None

abbrev pub binary_of : Punctuation → Option BinaryOperator
binary_of punctuations.Or = Some binary.Or
binary_of punctuations.And = Some binary.And
binary_of punctuations.Equal = Some binary.Equal
binary_of punctuations.NotEqual = Some binary.NotEqual
binary_of punctuations.Less = Some binary.Less
binary_of punctuations.AtMost = Some binary.AtMost
binary_of punctuations.Greater = Some binary.Greater
binary_of punctuations.AtLeast = Some binary.AtLeast
binary_of punctuations.Plus = Some binary.Add
binary_of punctuations.Minus = Some binary.Subtract
binary_of punctuations.Star = Some binary.Multiply
binary_of punctuations.Slash = Some binary.Divide
binary_of punctuations.Percent = Some binary.Remainder
binary_of _ = None

abbrev pub punctuation_of : TokenKind → Option Punctuation
punctuation_of (kinds.Punctuation m) = Some m
punctuation_of _ = None

-- an operator at the front, and the tokens after it
unfoldable pub unary_at : List Token → Option (UnaryOperator × List Token)
unary_at [] = None
unary_at (t ∷ ts) = punctuation_of t.kind >>= λ m. unary_of m >>= λ o. Some (o, ts)

unfoldable pub binary_at : List Token → Option (BinaryOperator × List Token)
binary_at [] = None
binary_at (t ∷ ts) = punctuation_of t.kind >>= λ m. binary_of m >>= λ o. Some (o, ts)
