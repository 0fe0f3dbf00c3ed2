-- Which bytes lex and as which tokens, and where bytes that do not lex are at fault.
use Rattle.std.specs.Prelude.{◌≡◌, ℕ, suc, ◌+◌, ◌<◌, ◌≤◌, List, ◌++◌, length, take, nat_lt, true}
use Rattle.std.specs.List.{list_all}
use Rattle.golf_lex_tokens.specs.declared.token.Token.{Token}
use Rattle.golf_lex_tokens.specs.Bytes.{newlines}
use Rattle.golf_lex_tokens.specs.Lexemes.{Lexeme, lexemes_text, Cut}
use Rattle.golf_lex_tokens.specs.Semicolons.{tokens_of}

-- the bytes are a list of lexemes, and the tokens are those of the lexemes
pub record Lexes (bytes : List ℕ) (tokens : List Token) : Type 0 where
  pub lexemes : List Lexeme
  pub cut : Cut lexemes
  pub text : bytes ≡ lexemes_text lexemes
  pub are : tokens ≡ tokens_of lexemes

-- the bytes are a prefix of some text that lexes
pub record CanGoOn (bytes : List ℕ) : Type 0 where
  pub more : List ℕ
  pub small : list_all (λ b. nat_lt b 256) more ≡ true
  pub tokens : List Token
  pub lexes : Lexes (bytes ++ more) tokens

-- the line of a place, from 1
abbrev pub line_at : List ℕ → ℕ → ℕ
line_at bytes place = 1 + newlines (take place bytes)

-- The bytes do not lex. The bytes before the place are a prefix of a text that lexes; with the byte at the place, if
-- there is one, they are not.
pub record IsFault (bytes : List ℕ) (place : ℕ) : Type 0 where
  pub refused : (tokens : List Token) → Lexes bytes tokens → ⊥
  pub within : place ≤ length bytes
  pub before : CanGoOn (take place bytes)
  pub behind : place < length bytes → CanGoOn (take (suc place) bytes) → ⊥
