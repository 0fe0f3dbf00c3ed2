-- The laws of reading, as statements: imports and declarations are found exactly where they are printed, and a file is
-- read in one way.
use Rattle.std.specs.Prelude.{◌≡◌, ℕ, true, List, ◌∷◌, Some}
use Rattle.golf_lex_tokens.specs.declared.token.Token.{Token}
use Rattle.golf_lex_tokens.specs.declared.token.TokenKind.TheVariants as kinds
use Rattle.golf_lex_tokens.specs.declared.token.Punctuation.TheVariants as punctuations
use Rattle.golf_lex_tokens.specs.declared.token.Keyword.TheVariants as keywords
use Rattle.golf_syntax_trees.specs.Words.{SpellsWords}
use Rattle.golf_syntax_trees.specs.declared.declarations.Import.{Import}
use Rattle.golf_syntax_trees.specs.declared.declarations.Decl.{Decl}
use Rattle.golf_syntax_trees.specs.Declarations.{print_import, print_decl, decl_good}
use Rattle.golf_syntax_trees.specs.declared.declarations.File.{File}
use Rattle.golf_syntax_trees.specs.Reads.{ReadsTokens, Reads}
use Rattle.golf_syntax_expressions.specs.Front.{after}
use Rattle.golf_syntax.specs.DeclarationReader.{import_at, decl_at}

-- an import, and a well-formed declaration, are printed at the front of these tokens
pub record IsImportIn (ts : List Token) (x : Import × List Token) : Type 0 where
  pub words : SpellsWords (print_import x.0) ts x.1

pub record IsDeclIn (ts : List Token) (x : Decl × List Token) : Type 0 where
  pub words : SpellsWords (print_decl x.0) ts x.1
  pub good : decl_good x.0 ≡ true

abbrev pub ImportsFound : Type 0
ImportsFound = (word : Token) (ts : List Token) (x : Import × List Token) → word.kind ≡ kinds.Keyword keywords.Import
    → import_at word.line ts ≡ Some x → IsImportIn (word ∷ ts) x

-- the reader finds each import that is printed; the import begins with its keyword
abbrev pub ImportsRead : Type 0
ImportsRead = (ts : List Token) (x : Import × List Token) → IsImportIn ts x → (word : Token) × (us : List Token)
    × (ts ≡ word ∷ us) × (word.kind ≡ kinds.Keyword keywords.Import) × (import_at word.line us ≡ Some x)

abbrev pub DeclsFound : Type 0
DeclsFound = (ts : List Token) (x : Decl × List Token) → decl_at ts ≡ Some x → IsDeclIn ts x

abbrev pub DeclsRead : Type 0
DeclsRead = (ts us : List Token) (x : Decl × List Token) → IsDeclIn ts x → after punctuations.Semicolon x.1 ≡ Some us
    → decl_at ts ≡ Some x

-- at most one tree reads the tokens
abbrev pub OneReads : Type 0
OneReads = (tokens : List Token) (one other : File) → ReadsTokens tokens one → ReadsTokens tokens other → one ≡ other

-- at most one tree reads the bytes
abbrev pub OneTree : Type 0
OneTree = (bytes : List ℕ) (one other : File) → Reads bytes one → Reads bytes other → one ≡ other
