-- The segments of a list of tokens, and which of them are broken.
use Rattle.std.specs.Prelude.{◌≡◌, ◌⊎◌, ℕ, zero, suc, pred, Bool, true, false, List, [], ◌∷◌, ◌++◌}
use Rattle.golf_lex_tokens.specs.declared.token.Token.{Token}
use Rattle.golf_lex_tokens.specs.declared.token.TokenKind.{TokenKind}
use Rattle.golf_lex_tokens.specs.declared.token.TokenKind.TheVariants as kinds
use Rattle.golf_lex_tokens.specs.declared.token.Punctuation.{Punctuation}
use Rattle.golf_lex_tokens.specs.declared.token.Punctuation.TheVariants as punctuations
use Rattle.golf_syntax_trees.specs.declared.declarations.Import.{Import}
use Rattle.golf_syntax_trees.specs.declared.declarations.Decl.{Decl}
use Rattle.golf_syntax_trees.specs.Words.{punctuation, SpellsWords}
use Rattle.golf_syntax_trees.specs.Declarations.{package_words, print_import, print_decl, decl_good}

-- how many brackets are open after a punctuation mark; a closing bracket without an open one counts for nothing
abbrev pub deeper : Punctuation → ℕ → ℕ
deeper punctuations.OpenParen depth = suc depth
deeper punctuations.OpenBracket depth = suc depth
deeper punctuations.OpenBrace depth = suc depth
deeper punctuations.CloseParen depth = pred depth
deeper punctuations.CloseBracket depth = pred depth
deeper punctuations.CloseBrace depth = pred depth
deeper _ depth = depth

abbrev pub depth_behind : TokenKind → ℕ → ℕ
depth_behind (kinds.Punctuation m) depth = deeper m depth
depth_behind _ depth = depth

-- whether a segment ends with this token, a semicolon outside all brackets
abbrev pub ends_segment : TokenKind → ℕ → Bool
ends_segment (kinds.Punctuation punctuations.Semicolon) zero = true
ends_segment _ _ = false

abbrev pub in_front : Token → List (List Token) → List (List Token)
in_front t [] = (t ∷ []) ∷ []
in_front t (p ∷ ps) = (t ∷ p) ∷ ps

abbrev pub before_segment : Bool → Token → List (List Token) → List (List Token)
before_segment true t ps = (t ∷ []) ∷ ps
before_segment false t ps = in_front t ps

-- the list, cut after each semicolon outside all brackets
abbrev pub segments : ℕ → List Token → List (List Token)
segments depth [] = []
segments depth (t ∷ ts) = before_segment (ends_segment t.kind depth) t (segments (depth_behind t.kind depth) ts)

-- the first token is on this line
abbrev pub BeginsOn : ℕ → List Token → Type 0
BeginsOn line [] = ⊥
BeginsOn line (t ∷ ts) = line ≡ t.line

abbrev pub IsPackage : List Token → Type 0
IsPackage p = SpellsWords package_words p []

pub record IsImport (p : List Token) : Type 0 where
  pub tree : Import
  pub words : SpellsWords (print_import tree ++ punctuation punctuations.Semicolon ∷ []) p []

pub record IsDecl (p : List Token) : Type 0 where
  pub tree : Decl
  pub words : SpellsWords (print_decl tree ++ punctuation punctuations.Semicolon ∷ []) p []
  pub good : decl_good tree ≡ true

-- a segment is an import before all declarations, or a declaration
abbrev pub IsWholeSegment : Bool → List Token → Type 0
IsWholeSegment declared p = (IsImport p × (declared ≡ false)) ⊎ IsDecl p

-- the first broken segment begins on this line; `declared` says whether there is a declaration before these segments
abbrev pub BreaksOn : Bool → List (List Token) → ℕ → Type 0
BreaksOn declared [] line = ⊥
BreaksOn declared (p ∷ ps) line =
    ((IsWholeSegment declared p → ⊥) × BeginsOn line p)
    ⊎ (((IsImport p × (declared ≡ false)) × BreaksOn declared ps line) ⊎ (IsDecl p × BreaksOn true ps line))

-- the first segment of a file names its package
abbrev pub FileBreaksOn : List (List Token) → ℕ → Type 0
FileBreaksOn [] line = ⊥
FileBreaksOn (p ∷ ps) line = ((IsPackage p → ⊥) × BeginsOn line p) ⊎ (IsPackage p × BreaksOn false ps line)
