-- The cost of each token: a bound on how deep and how wide the constructs are that are open at it.
use Rattle.std.specs.Prelude.{ℕ, ◌+◌, List, [], ◌∷◌, sum}
use Rattle.golf_lex_tokens.specs.declared.token.Token.{Token}
use Rattle.golf_lex_tokens.specs.declared.token.TokenKind.{TokenKind}
use Rattle.golf_lex_tokens.specs.declared.token.TokenKind.TheVariants.{Punctuation as PunctuationToken}
use Rattle.golf_lex_tokens.specs.declared.token.Punctuation.TheVariants.{OpenParen, OpenBracket, OpenBrace, CloseParen}
use Rattle.golf_lex_tokens.specs.declared.token.Punctuation.TheVariants.{CloseBracket, CloseBrace, Semicolon, Comma}

abbrev pub one_more : List ℕ → List ℕ
one_more [] = 1 ∷ []
one_more (count ∷ counts) = (count + 1) ∷ counts

-- the count of the innermost bracket is dropped, if there is a count outside it
abbrev pub closed : List ℕ → List ℕ
closed (inner ∷ outer ∷ counts) = outer ∷ counts
closed counts = counts

abbrev pub cleared : List ℕ → List ℕ
cleared [] = []
cleared (count ∷ counts) = 0 ∷ counts

-- The counts after a token, the innermost first. Each token adds one. An opening bracket begins a new count. A closing
-- bracket ends a count, and adds one to the count outside. A `;` or `,` sets the innermost count to 0.
abbrev pub counted : TokenKind → List ℕ → List ℕ
counted (PunctuationToken OpenParen) counts = 0 ∷ one_more counts
counted (PunctuationToken OpenBracket) counts = 0 ∷ one_more counts
counted (PunctuationToken OpenBrace) counts = 0 ∷ one_more counts
counted (PunctuationToken CloseParen) counts = one_more (closed counts)
counted (PunctuationToken CloseBracket) counts = one_more (closed counts)
counted (PunctuationToken CloseBrace) counts = one_more (closed counts)
counted (PunctuationToken Semicolon) counts = cleared (one_more counts)
counted (PunctuationToken Comma) counts = cleared (one_more counts)
counted _ counts = one_more counts

abbrev pub costs_from : List ℕ → List Token → List ℕ
costs_from counts [] = []
costs_from counts (token ∷ rest) = let next = counted token.kind counts in sum next ∷ costs_from next rest

-- the cost of each token: the sum of the counts after it
abbrev pub costs : List Token → List ℕ
costs tokens = costs_from (0 ∷ []) tokens
