-- The definitions on small texts.
use Rattle.std.proofs.Common.{◌≡◌, List, [], ◌∷◌, refl}
use Rattle.std.specs.Prelude.{None, ℕ, codes}
use Rattle.golf_lex_tokens.specs.declared.token.Token.{Token}
use Rattle.golf_lex_tokens.specs.declared.token.TokenKind.{TokenKind}
use Rattle.golf_lex_tokens.specs.declared.token.TokenKind.TheVariants as kinds
use Rattle.golf_lex_tokens.specs.declared.token.Punctuation.{Punctuation}
use Rattle.golf_lex_tokens.specs.declared.token.Punctuation.TheVariants as punctuations
use Rattle.golf_syntax_trees.specs.Segments.{segments}
use Rattle.golf_syntax_trees.specs.Reads.{most, first_too_complex, no_counts}

abbrev on : ℕ → TokenKind → Token
on l k = record { kind = k; line = l }

abbrev punctuation : Punctuation → Token
punctuation m = on 1 (kinds.Punctuation m)

abbrev named : List ℕ → Token
named n = on 1 (kinds.Name n)

-- the list is cut after each semicolon outside all brackets
three_segments : segments 0 (named (codes "x") ∷ punctuation punctuations.Semicolon ∷ punctuation punctuations.OpenBrace
    ∷ punctuation punctuations.Semicolon ∷ punctuation punctuations.CloseBrace ∷ punctuation punctuations.Semicolon
    ∷ punctuation punctuations.CloseBrace ∷ [])
    ≡ (named (codes "x") ∷ punctuation punctuations.Semicolon ∷ [])
    ∷ (punctuation punctuations.OpenBrace ∷ punctuation punctuations.Semicolon ∷ punctuation punctuations.CloseBrace
    ∷ punctuation punctuations.Semicolon ∷ []) ∷ (punctuation punctuations.CloseBrace ∷ []) ∷ []
three_segments = refl

-- no token of a short list costs too much
cheap : first_too_complex no_counts (punctuation punctuations.OpenParen ∷ punctuation punctuations.OpenParen
    ∷ punctuation punctuations.CloseParen ∷ []) ≡ None
unfolding most
cheap = refl
