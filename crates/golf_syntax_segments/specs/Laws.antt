-- The laws of segments, as statements: printed imports, declarations and files are cut where their parts end.
use Rattle.std.specs.Prelude.{◌≡◌, List, [], ◌∷◌, ◌++◌}
use Rattle.golf_lex_tokens.specs.declared.token.Token.{Token}
use Rattle.golf_lex_tokens.specs.declared.token.Punctuation.TheVariants as punctuations
use Rattle.golf_syntax_trees.specs.declared.declarations.Import.{Import}
use Rattle.golf_syntax_trees.specs.declared.declarations.Decl.{Decl}
use Rattle.golf_syntax_trees.specs.declared.declarations.File.{File}
use Rattle.golf_syntax_trees.specs.Words.{Word, punctuation, SpellsWords}
use Rattle.golf_syntax_trees.specs.Declarations.{print_import, print_decl}
use Rattle.golf_syntax_trees.specs.Segments.{segments, IsPackage}
use Rattle.golf_syntax_trees.specs.Reads.{Prints}

-- the tokens are these words and a semicolon
abbrev pub EndedBySemicolon : List Word → List Token → Type 0
EndedBySemicolon ws p = SpellsWords (ws ++ punctuation punctuations.Semicolon ∷ []) p []

-- such tokens are the first segment, whatever follows
abbrev pub IsSegment : List Word → Type 0
IsSegment ws = (p rest : List Token) → EndedBySemicolon ws p → segments 0 (p ++ rest) ≡ p ∷ segments 0 rest

abbrev pub ImportsAreSegments : Type 0
ImportsAreSegments = (i : Import) → IsSegment (print_import i)

abbrev pub DeclsAreSegments : Type 0
DeclsAreSegments = (d : Decl) → IsSegment (print_decl d)

-- one segment for each declaration, after one for each import
abbrev pub DeclSegments : List Decl → List (List Token) → Type 0
DeclSegments [] ps = ps ≡ []
DeclSegments (d ∷ ds) [] = ⊥
DeclSegments (d ∷ ds) (p ∷ ps) = EndedBySemicolon (print_decl d) p × DeclSegments ds ps

abbrev pub ImportSegments : List Import → List Decl → List (List Token) → Type 0
ImportSegments [] ds ps = DeclSegments ds ps
ImportSegments (i ∷ is) ds [] = ⊥
ImportSegments (i ∷ is) ds (p ∷ ps) = EndedBySemicolon (print_import i) p × ImportSegments is ds ps

-- one segment for the package, for each import and for each declaration
abbrev pub FileSegments : File → List (List Token) → Type 0
FileSegments f [] = ⊥
FileSegments f (p ∷ ps) = IsPackage p × ImportSegments f.imports f.declarations ps

abbrev pub FilesAreSegments : Type 0
FilesAreSegments = (f : File) (ts : List Token) → Prints f ts → FileSegments f (segments 0 ts)
