-- How a segment is read: as the package, as an import or as a declaration.
use Rattle.std.specs.Prelude.{ℕ, Bool, true, false, ◌&&◌, cond, List, [], ◌∷◌, codes, Option, Some, None}
use Rattle.std.specs.Str.{bytes_eq}
use Rattle.golf_lex_tokens.specs.declared.token.Token.{Token}
use Rattle.golf_lex_tokens.specs.declared.token.TokenKind.{TokenKind}
use Rattle.golf_lex_tokens.specs.declared.token.TokenKind.TheVariants as kinds
use Rattle.golf_lex_tokens.specs.declared.token.Punctuation.TheVariants as punctuations
use Rattle.golf_lex_tokens.specs.declared.token.Keyword.TheVariants as keywords
use Rattle.golf_syntax_trees.specs.declared.declarations.Import.{Import}
use Rattle.golf_syntax_trees.specs.declared.declarations.Decl.{Decl}
use Rattle.golf_syntax_expressions.specs.Plan.{◌>>=◌}
use Rattle.golf_syntax_expressions.specs.Front.{after, after_keyword, name_at}
use Rattle.golf_syntax.specs.DeclarationReader.{import_at, decl_at}

abbrev pub is_last : Option (List Token) → Bool
is_last (Some []) = true
is_last _ = false

-- whether the tokens are a semicolon and nothing after it
abbrev pub is_end : List Token → Bool
is_end ts = is_last (after punctuations.Semicolon ts)

-- the construct that was found, if the segment ends after it
abbrev pub alone : {A : Type 0} → A × List Token → Option A
alone x = cond (is_end x.1) (Some x.0) None

abbrev pub import_by_word : ℕ → TokenKind → List Token → Option Import
import_by_word l (kinds.Keyword keywords.Import) ts = import_at l ts >>= alone
import_by_word l _ ts = None

-- the import of a segment, if it is one
abbrev pub import_of : List Token → Option Import
import_of [] = None
import_of (t ∷ ts) = import_by_word t.line t.kind ts

-- the declaration of a segment, if it is one
abbrev pub decl_of : List Token → Option Decl
decl_of ts = decl_at ts >>= alone

abbrev pub is_main : Option (List ℕ × List Token) → Bool
is_main None = false
is_main (Some n) = bytes_eq n.0 (codes "main") && is_end n.1

-- whether a segment names the package
abbrev pub is_package : List Token → Bool
is_package ts = is_main (after_keyword keywords.Package ts >>= name_at)
