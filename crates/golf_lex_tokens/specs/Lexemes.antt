-- The bytes of a file cut into blanks, comments and tokens (Go specification, "Comments", "Tokens").
use Rattle.std.specs.Prelude.{◌≡◌, ℕ, ◌<◌, Bool, true, false, ◌&&◌, ◌||◌, not, nat_eq, List, [], ◌∷◌, ◌++◌, length}
use Rattle.std.specs.Prelude.{codes}
use Rattle.std.specs.List.{list_all}
use Rattle.golf_lex_tokens.specs.declared.token.TokenKind.{TokenKind}
use Rattle.golf_lex_tokens.specs.declared.token.TokenKind.TheVariants.{Integer, Punctuation as PunctuationToken}
use Rattle.golf_lex_tokens.specs.declared.token.Punctuation.TheVariants.{Slash}
use Rattle.golf_lex_tokens.specs.Bytes.{is_blank, is_word_byte}
use Rattle.golf_lex_tokens.specs.Spelling.{Spells}

-- the class of a lexeme
pub data Class : Type 0 where
  Blank : Class
  LineComment : Class
  GeneralComment : Class
  Of : TokenKind → Class

-- a lexeme, and its bytes
pub record Lexeme : Type 0 where
  pub class : Class
  pub bytes : List ℕ

abbrev pub lexemes_text : List Lexeme → List ℕ
lexemes_text [] = []
lexemes_text (p ∷ ps) = p.bytes ++ lexemes_text ps

-- whether `*/` occurs in the bytes
abbrev pub has_end : List ℕ → Bool
has_end [] = false
has_end (b ∷ []) = false
has_end (b ∷ c ∷ bs) = (nat_eq b 42 && nat_eq c 47) || has_end (c ∷ bs)

abbrev pub is_nonzero : ℕ → Bool
is_nonzero b = not (nat_eq b 0)

-- `//` and the bytes after it on its line; no comment has a NUL
pub record IsLineComment (bytes : List ℕ) : Type 0 where
  pub body : List ℕ
  pub spelled : bytes ≡ codes "//" ++ body
  pub valid : list_all (λ b. is_nonzero b && not (nat_eq b 10)) body ≡ true

-- `/*` and all bytes up to the first `*/` after it
pub record IsGeneralComment (bytes : List ℕ) : Type 0 where
  pub body : List ℕ
  pub spelled : bytes ≡ codes "/*" ++ (body ++ codes "*/")
  pub valid : list_all is_nonzero body ≡ true
  pub first : has_end (body ++ codes "*") ≡ false

-- the bytes are a lexeme of this class
abbrev pub Forms : Class → List ℕ → Type 0
Forms Blank bytes = (b : ℕ) × (bytes ≡ b ∷ []) × (is_blank b ≡ true)
Forms LineComment bytes = IsLineComment bytes
Forms GeneralComment bytes = IsGeneralComment bytes
Forms (Of kind) bytes = Spells kind bytes

-- no longer prefix of these bytes and the bytes after them spells a token
abbrev pub IsLongest : List ℕ → List ℕ → Type 0
IsLongest bytes rest =
    (longer behind : List ℕ) → bytes ++ rest ≡ longer ++ behind → length bytes < length longer → (kind : TokenKind)
    → Spells kind longer → ⊥

-- whether the bytes begin with a byte that satisfies the test
abbrev pub begins : (ℕ → Bool) → List ℕ → Bool
begins test [] = false
begins test (b ∷ bs) = test b

-- no `/` or `*` comes right after a `/`, and no letter, `_` or digit right after an integer
abbrev pub stands_clear : TokenKind → List ℕ → Bool
stands_clear (Integer digits) rest = not (begins is_word_byte rest)
stands_clear (PunctuationToken Slash) rest = not (begins (λ b. nat_eq b 47 || nat_eq b 42) rest)
stands_clear _ rest = true

-- Such a lexeme can come before the rest: a line comment goes to the end of its line, and a token is the longest.
abbrev pub MayPrecede : Class → List ℕ → List ℕ → Type 0
MayPrecede Blank bytes rest = Unit {0}
MayPrecede LineComment bytes [] = Unit {0}
MayPrecede LineComment bytes (b ∷ rest) = b ≡ 10
MayPrecede GeneralComment bytes rest = Unit {0}
MayPrecede (Of kind) bytes rest = IsLongest bytes rest × (stands_clear kind rest ≡ true)

-- each entry is a lexeme, and can come before those after it
abbrev pub Cut : List Lexeme → Type 0
Cut [] = Unit {0}
Cut (p ∷ ps) = Forms p.class p.bytes × MayPrecede p.class p.bytes (lexemes_text ps) × Cut ps
