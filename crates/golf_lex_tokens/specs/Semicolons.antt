-- The tokens of lexemes, with the semicolons for which newlines stand (Go specification, "Semicolons").
use Rattle.std.specs.Prelude.{ℕ, ◌+◌, Bool, true, false, ◌&&◌, nat_eq, cond, List, [], ◌∷◌, ◌++◌}
use Rattle.golf_lex_tokens.specs.declared.token.Token.{Token}
use Rattle.golf_lex_tokens.specs.declared.token.TokenKind.{TokenKind}
use Rattle.golf_lex_tokens.specs.declared.token.TokenKind.TheVariants.{Name, Integer, Text, Keyword as KeywordToken}
use Rattle.golf_lex_tokens.specs.declared.token.TokenKind.TheVariants.{Punctuation as PunctuationToken}
use Rattle.golf_lex_tokens.specs.declared.token.Keyword.TheVariants.{Break, Continue, Return}
use Rattle.golf_lex_tokens.specs.declared.token.Punctuation.TheVariants.{Increment, Decrement, CloseParen, CloseBracket}
use Rattle.golf_lex_tokens.specs.declared.token.Punctuation.TheVariants.{CloseBrace, Semicolon, Comma}
use Rattle.golf_lex_tokens.specs.Bytes.{newlines}
use Rattle.golf_lex_tokens.specs.Lexemes.{Class, Lexeme}
use Rattle.golf_lex_tokens.specs.Lexemes as lexemes

-- a token, or a newline
pub data Item : Type 0 where
  Of : Token → Item
  Newline : Item

-- a newline if there is one in the bytes
abbrev pub newline_in : List ℕ → List Item
newline_in bytes = cond (nat_eq (newlines bytes) 0) [] (Newline ∷ [])

-- the items of a lexeme; a general comment with a newline counts as a newline
abbrev pub lexeme_items : ℕ → Class → List ℕ → List Item
lexeme_items line (lexemes.Of kind) bytes = Of (record { kind = kind; line = line }) ∷ []
lexeme_items line _ bytes = newline_in bytes

-- the tokens and newlines of lexemes that begin on this line
abbrev pub items : ℕ → List Lexeme → List Item
items line [] = []
items line (p ∷ ps) = lexeme_items line p.class p.bytes ++ items (line + newlines p.bytes) ps

-- whether a newline after the token stands for a semicolon
abbrev pub may_end : TokenKind → Bool
may_end (Name name) = true
may_end (Integer digits) = true
may_end (Text content) = true
may_end (KeywordToken Break) = true
may_end (KeywordToken Continue) = true
may_end (KeywordToken Return) = true
may_end (PunctuationToken Increment) = true
may_end (PunctuationToken Decrement) = true
may_end (PunctuationToken CloseParen) = true
may_end (PunctuationToken CloseBracket) = true
may_end (PunctuationToken CloseBrace) = true
may_end _ = false

-- whether the line ends here, by a newline or by the end of the file
abbrev pub line_ends : List Item → Bool
line_ends [] = true
line_ends (Newline ∷ rest) = true
line_ends (Of token ∷ rest) = false

abbrev pub semicolon : ℕ → Token
semicolon line = record { kind = PunctuationToken Semicolon; line = line }

-- the semicolon that is inserted after a token, on its line
abbrev pub semicolon_behind : Token → List Item → List Token
semicolon_behind token rest = cond (may_end token.kind && line_ends rest) (semicolon token.line ∷ []) []

-- the tokens with the inserted semicolons
abbrev pub inserted : List Item → List Token
inserted [] = []
inserted (Newline ∷ rest) = inserted rest
inserted (Of token ∷ rest) = token ∷ (semicolon_behind token rest ++ inserted rest)

abbrev pub is_separator : TokenKind → Bool
is_separator (PunctuationToken Semicolon) = true
is_separator (PunctuationToken Comma) = true
is_separator _ = false

abbrev pub is_closing : TokenKind → Bool
is_closing (PunctuationToken CloseParen) = true
is_closing (PunctuationToken CloseBrace) = true
is_closing _ = false

abbrev pub closes : List Token → Bool
closes [] = false
closes (token ∷ rest) = is_closing token.kind

-- one walk that drops each `;` and `,` right before a `)` or a `}`
abbrev pub without_optional : List Token → List Token
without_optional [] = []
without_optional (token ∷ rest) =
    cond (is_separator token.kind && closes rest) (without_optional rest) (token ∷ without_optional rest)

-- the tokens of the lexemes of a file
abbrev pub tokens_of : List Lexeme → List Token
tokens_of lexemes = without_optional (inserted (items 1 lexemes))
