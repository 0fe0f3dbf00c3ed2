-- The front of a list of tokens.
use Rattle.std.specs.Prelude.{ℕ, Bool, cond, List, [], ◌∷◌, Option, Some, None, option_map}
use Rattle.std.specs.Borrow.{Bor}
use denote.Enum.Bare.{sameb}
use Rattle.golf_lex_tokens.specs.declared.token.Token.{Token}
use Rattle.golf_lex_tokens.specs.declared.token.TokenKind.{TokenKind}
use Rattle.golf_lex_tokens.specs.declared.token.TokenKind.TheVariants as kinds
use Rattle.golf_lex_tokens.specs.declared.token.Punctuation.{Punctuation}
use Rattle.golf_lex_tokens.specs.declared.token.Keyword.{Keyword}
use Rattle.golf_lex_tokens.specs.contracts.token.Punctuation as punctuation
use Rattle.golf_lex_tokens.specs.contracts.token.Keyword as keyword

abbrev pub same_punctuation : Punctuation → Punctuation → Bool
same_punctuation a b = sameb punctuation.the_type a b

abbrev pub same_keyword : Keyword → Keyword → Bool
same_keyword a b = sameb keyword.the_type a b

abbrev pub after_kind : Punctuation → TokenKind → List Token → Option (List Token)
after_kind m (kinds.Punctuation n) rest = cond (same_punctuation n m) (Some rest) None
after_kind m _ rest = None

-- the tokens after a punctuation mark
abbrev pub after : Punctuation → List Token → Option (List Token)
after m [] = None
after m (t ∷ ts) = after_kind m t.kind ts

abbrev pub after_keyword_kind : Keyword → TokenKind → List Token → Option (List Token)
after_keyword_kind k (kinds.Keyword n) rest = cond (same_keyword n k) (Some rest) None
after_keyword_kind k _ rest = None

-- the tokens after a keyword
abbrev pub after_keyword : Keyword → List Token → Option (List Token)
after_keyword k [] = None
after_keyword k (t ∷ ts) = after_keyword_kind k t.kind ts

abbrev pub name_of : TokenKind → List Token → Option (List ℕ × List Token)
name_of (kinds.Name n) rest = Some (n, rest)
name_of _ rest = None

-- a name, and the tokens after it
abbrev pub name_at : List Token → Option (List ℕ × List Token)
name_at [] = None
name_at (t ∷ ts) = name_of t.kind ts

-- the construct that a reader found, with the tokens after it
abbrev pub seen : {A : Type 0} → Option (A × Bor (List Token)) → Option (A × List Token)
seen found = option_map (λ x. (x.0, x.1.now)) found
