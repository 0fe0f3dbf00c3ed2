-- Worked examples of what lexes and of faults.
use Rattle.std.proofs.Common.{◌≡◌, ℕ, [], ◌∷◌, refl, lit<}
use Rattle.std.specs.Prelude.{codes}
use Rattle.golf_lex_tokens.specs.declared.token.Token.{Token}
use Rattle.golf_lex_tokens.specs.declared.token.TokenKind.{TokenKind}
use Rattle.golf_lex_tokens.specs.declared.token.TokenKind.TheVariants.{Name, Text, Keyword, Punctuation}
use Rattle.golf_lex_tokens.specs.declared.token.Keyword.TheVariants.{Return}
use Rattle.golf_lex_tokens.specs.declared.token.Punctuation.TheVariants as punctuations
use Rattle.golf_lex_tokens.specs.Lexes.{Lexes, IsFault, line_at}
use Rattle.golf_lex.specs.declared.automaton.State.TheVariants.{Zero, Quoted, Bar}
use Rattle.golf_lex.proofs.Runs.{scans-lexes, fault-at, fault-end}

at : ℕ → TokenKind → Token
at line kind = record { kind = kind; line = line }

short : Lexes (codes "a<-b // c\n}") (at 1 (Name (codes "a")) ∷ at 1 (Punctuation punctuations.Arrow)
    ∷ at 1 (Name (codes "b")) ∷ at 2 (Punctuation punctuations.CloseBrace) ∷ at 2 (Punctuation punctuations.Semicolon)
    ∷ [])
unfolding at
short = scans-lexes (codes "a<-b // c\n}") _ refl

string : Lexes (codes "return \"\\\"\"")
    (at 1 (Keyword Return) ∷ at 1 (Text (34 ∷ [])) ∷ at 1 (Punctuation punctuations.Semicolon) ∷ [])
unfolding at
string = scans-lexes (codes "return \"\\\"\"") _ refl

-- the second digit of `01`
leading_zero : IsFault (codes "01") 1
leading_zero = fault-at (codes "01") 1 49 Zero (lit< tt) refl refl refl

-- the byte after a lone `|`
lone_bar : IsFault (codes "a|b") 2
lone_bar = fault-at (codes "a|b") 2 98 Bar (lit< tt) refl refl refl

-- the end of a file with an open string, on line 3
open_string : IsFault (codes "package main\nfunc main() {\n\tx := \"ab") 36
open_string = fault-end (codes "package main\nfunc main() {\n\tx := \"ab") Quoted refl refl

open_string_line : line_at (codes "package main\nfunc main() {\n\tx := \"ab") 36 ≡ 3
open_string_line = refl
