-- The laws of lexing, as statements: bytes lex in one way, or are at fault at one place.
use Rattle.std.specs.Prelude.{◌≡◌, ◌⊎◌, ℕ, List}
use Rattle.golf_lex_tokens.specs.declared.token.Token.{Token}
use Rattle.golf_lex_tokens.specs.Lexes.{Lexes, IsFault}

-- bytes lex in at most one way
abbrev pub LexesOnce : Type 0
LexesOnce = (bytes : List ℕ) (xs ys : List Token) → Lexes bytes xs → Lexes bytes ys → xs ≡ ys

-- bytes are at fault at one place at most
abbrev pub FaultsOnce : Type 0
FaultsOnce = (bytes : List ℕ) (place other : ℕ) → IsFault bytes place → IsFault bytes other → place ≡ other

-- bytes lex, or there is a place where they are at fault
abbrev pub LexesOrFaults : Type 0
LexesOrFaults = (bytes : List ℕ) → ((tokens : List Token) × Lexes bytes tokens) ⊎ ((place : ℕ) × IsFault bytes place)
