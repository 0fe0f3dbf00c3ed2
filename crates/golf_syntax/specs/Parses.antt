-- The answers of the parser.
use Rattle.std.specs.Prelude.{◌≡◌, ℕ, true, List, [], ◌∷◌, map, Result, Ok, Err, ◌⊎◌}
use Rattle.std.specs.List.{list_all}
use Rattle.golf_lex_tokens.specs.declared.token.Token.{Token}
use Rattle.golf_syntax_trees.specs.declared.declarations.Import.{Import}
use Rattle.golf_syntax_trees.specs.declared.declarations.Decl.{Decl}
use Rattle.golf_syntax_trees.specs.declared.declarations.File.{File}
use Rattle.golf_syntax_trees.specs.Words.{closed, SpellsWords}
use Rattle.golf_syntax_trees.specs.Declarations.{print_import, print_decl, decl_good}
use Rattle.golf_syntax_trees.specs.Segments.{segments, IsImport, BreaksOn}
use Rattle.golf_syntax_trees.specs.Reads.{ReadsTokens, IsFaultOn}
use Rattle.golf_syntax.specs.declared.parser.SyntaxFault.{SyntaxFault}
use Rattle.golf_syntax.specs.declared.parser.SyntaxFault.TheVariants as faults

-- The tree that reads the tokens, or the line of the fault if none does. Without memory it says nothing.
abbrev pub Parsed : List Token → Result File SyntaxFault → Type 0
Parsed tokens (Ok file) = ReadsTokens tokens file
Parsed tokens (Err (faults.At line)) = ((file : File) → ReadsTokens tokens file → ⊥) × IsFaultOn tokens line
Parsed tokens (Err faults.Memory) = Unit {0}

-- if a tree reads the tokens, the answer is that tree, unless memory runs out
abbrev pub AcceptsTokens : List Token → Result File SyntaxFault → Type 0
AcceptsTokens tokens result = (file : File) → ReadsTokens tokens file → (result ≡ Ok file)
    ⊎ (result ≡ Err faults.Memory)

-- if no tree reads the tokens, the answer is the line of the fault, unless memory runs out
abbrev pub RefusesTokens : List Token → Result File SyntaxFault → Type 0
RefusesTokens tokens result = ((file : File) → ReadsTokens tokens file → ⊥)
    → ((line : ℕ) × (result ≡ Err (faults.At line)) × IsFaultOn tokens line) ⊎ (result ≡ Err faults.Memory)

-- the first segment is no import
abbrev pub NoImport : List (List Token) → Type 0
NoImport [] = Unit {0}
NoImport (p ∷ ps) = IsImport p → ⊥

-- these imports are the first segments, and no import follows them
pub record Imported (ts : List Token) (found : List Import) (rest : List Token) : Type 0 where
  pub words : SpellsWords (closed (map print_import found)) ts rest
  pub over : NoImport (segments 0 rest)

-- the segments are these declarations, or the line is that of the first segment that is no declaration
abbrev pub Declared : List Token → Result (List Decl) SyntaxFault → Type 0
Declared ts (Ok found) = SpellsWords (closed (map print_decl found)) ts [] × (list_all decl_good found ≡ true)
Declared ts (Err (faults.At line)) = BreaksOn true (segments 0 ts) line
Declared ts (Err faults.Memory) = Unit {0}

-- the line of the first token, or 1 if there are no tokens
abbrev pub FirstLine : List Token → ℕ → Type 0
FirstLine [] line = line ≡ 1
FirstLine (t ∷ ts) line = line ≡ t.line
