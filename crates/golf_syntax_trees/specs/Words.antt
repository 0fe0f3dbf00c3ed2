-- The words that trees print, and the tokens for which they stand.
use Rattle.std.specs.Prelude.{◌≡◌, ℕ, List, [], ◌∷◌, ◌++◌, Option, Some, None}
use Rattle.golf_lex_tokens.specs.declared.token.Token.{Token}
use Rattle.golf_lex_tokens.specs.declared.token.TokenKind.{TokenKind}
use Rattle.golf_lex_tokens.specs.declared.token.TokenKind.TheVariants as kinds
use Rattle.golf_lex_tokens.specs.declared.token.Punctuation.{Punctuation}
use Rattle.golf_lex_tokens.specs.declared.token.Punctuation.TheVariants as punctuations
use Rattle.golf_lex_tokens.specs.declared.token.Keyword.{Keyword}

-- a printed token: its kind, and its line if a statement, declaration or clause begins with it
pub record Word : Type 0 where
  pub kind : TokenKind
  pub line : Option ℕ

abbrev pub word : TokenKind → Word
word k = record { kind = k; line = None }

abbrev pub punctuation : Punctuation → Word
punctuation m = word (kinds.Punctuation m)

abbrev pub keyword : Keyword → Word
keyword k = word (kinds.Keyword k)

abbrev pub name : List ℕ → Word
name bytes = word (kinds.Name bytes)

-- the first word is on this line
abbrev pub on_line : ℕ → List Word → List Word
on_line l [] = []
on_line l (w ∷ ws) = record { kind = w.kind; line = Some l } ∷ ws

-- each text after a separator
abbrev pub behind : Punctuation → List (List Word) → List Word
behind m [] = []
behind m (x ∷ xs) = punctuation m ∷ (x ++ behind m xs)

-- texts with a separator between
abbrev pub separated : Punctuation → List (List Word) → List Word
separated m [] = []
separated m (x ∷ xs) = x ++ behind m xs

-- texts with a semicolon after each
abbrev pub closed : List (List Word) → List Word
closed [] = []
closed (x ∷ xs) = x ++ punctuation punctuations.Semicolon ∷ closed xs

-- the token is on the line of its word, if the word has one
abbrev pub OnLine : Option ℕ → ℕ → Type 0
OnLine None line = Unit {0}
OnLine (Some l) line = line ≡ l

abbrev pub IsWord : Word → Token → Type 0
IsWord w t = (t.kind ≡ w.kind) × OnLine w.line t.line

-- the tokens of the first list, up to the second list, are these words
abbrev pub SpellsWords : List Word → List Token → List Token → Type 0
SpellsWords [] ts rest = ts ≡ rest
SpellsWords (w ∷ ws) [] rest = ⊥
SpellsWords (w ∷ ws) (t ∷ ts) rest = IsWord w t × SpellsWords ws ts rest
