-- Worked examples of the definitions.
use Rattle.std.proofs.Common.{◌≡◌, ℕ, true, false, List, [], ◌∷◌, refl}
use Rattle.std.specs.Prelude.{codes}
use Rattle.golf_lex_tokens.specs.declared.token.Token.{Token}
use Rattle.golf_lex_tokens.specs.declared.token.TokenKind.{TokenKind}
use Rattle.golf_lex_tokens.specs.declared.token.TokenKind.TheVariants.{Name, Integer, Punctuation}
use Rattle.golf_lex_tokens.specs.declared.token.Punctuation.TheVariants as punctuations
use Rattle.golf_lex_tokens.specs.Spelling.{is_word, is_integer, Itself, Newline, Quote, parts_text, parts_bytes}
use Rattle.golf_lex_tokens.specs.Lexemes.{Class, Lexeme, Blank, LineComment, GeneralComment, Of, has_end}
use Rattle.golf_lex_tokens.specs.Semicolons.{tokens_of, without_optional}
use Rattle.golf_lex_tokens.specs.Cost.{costs}

at : ℕ → TokenKind → Token
at line kind = record { kind = kind; line = line }

x : TokenKind
x = Name (codes "x")

lexeme : Class → List ℕ → Lexeme
lexeme class bytes = record { class = class; bytes = bytes }

integers : is_integer (codes "0") ≡ true
integers = refl

leading_zeros : is_integer (codes "01") ≡ false
leading_zeros = refl

words : is_word (codes "_a1") ≡ true
words = refl

no_words : is_word (codes "1a") ≡ false
no_words = refl

escapes : parts_text (Itself 97 ∷ Newline ∷ Quote ∷ []) ≡ codes "a\\n\\\""
escapes = refl

escaped : parts_bytes (Itself 97 ∷ Newline ∷ Quote ∷ []) ≡ 97 ∷ 10 ∷ 34 ∷ []
escaped = refl

-- the first `*/` is not the last
ends : has_end (codes "a*/b") ≡ true
ends = refl

-- `x`, a comment over two lines, `1`: the semicolons have the lines of their tokens
inserts : tokens_of (lexeme (Of x) (codes "x") ∷ lexeme GeneralComment (codes "/*\n*/")
    ∷ lexeme (Of (Integer (codes "1"))) (codes "1") ∷ []) ≡ at 1 x ∷ at 1 (Punctuation punctuations.Semicolon)
    ∷ at 2 (Integer (codes "1")) ∷ at 2 (Punctuation punctuations.Semicolon) ∷ []
unfolding at x lexeme
inserts = refl

-- `x`, a blank, a line comment, a newline, `.`: no semicolon after the point
inserts_none : tokens_of (lexeme (Of x) (codes "x") ∷ lexeme Blank (codes " ") ∷ lexeme LineComment (codes "//")
    ∷ lexeme Blank (codes "\n") ∷ lexeme (Of (Punctuation punctuations.Dot)) (codes ".") ∷ []) ≡ at 1 x
    ∷ at 1 (Punctuation punctuations.Semicolon) ∷ at 2 (Punctuation punctuations.Dot) ∷ []
unfolding at x lexeme
inserts_none = refl

-- of `x;;}` one `;` stays, and `[x,]` keeps its comma
leaves_out : without_optional (at 1 x ∷ at 1 (Punctuation punctuations.Semicolon)
    ∷ at 1 (Punctuation punctuations.Semicolon) ∷ at 1 (Punctuation punctuations.CloseBrace) ∷ []) ≡ at 1 x
    ∷ at 1 (Punctuation punctuations.Semicolon) ∷ at 1 (Punctuation punctuations.CloseBrace) ∷ []
unfolding at x
leaves_out = refl

keeps : without_optional (at 1 x ∷ at 1 (Punctuation punctuations.Comma) ∷ at 1 (Punctuation punctuations.CloseBracket)
    ∷ []) ≡ at 1 x ∷ at 1 (Punctuation punctuations.Comma) ∷ at 1 (Punctuation punctuations.CloseBracket) ∷ []
unfolding at x
keeps = refl

-- `x(x, x);`
call : costs (at 1 x ∷ at 1 (Punctuation punctuations.OpenParen) ∷ at 1 x ∷ at 1 (Punctuation punctuations.Comma)
    ∷ at 1 x ∷ at 1 (Punctuation punctuations.CloseParen) ∷ at 1 (Punctuation punctuations.Semicolon) ∷ []) ≡ 1 ∷ 2 ∷ 3
    ∷ 2 ∷ 3 ∷ 3 ∷ 0 ∷ []
unfolding at x
call = refl

-- a closing bracket that nothing opened counts like any token
stray : costs (at 1 x ∷ at 1 (Punctuation punctuations.CloseParen) ∷ at 1 x ∷ []) ≡ 1 ∷ 2 ∷ 3 ∷ []
unfolding at x
stray = refl
