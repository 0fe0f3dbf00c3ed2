-- The reasons for which a file is refused, and the answers of its reading (profile).
use Rattle.std.specs.Prelude.{◌≡◌, ℕ, List, Result, Ok, Err}
use Rattle.golf_data.specs.declared.code.Code.{Code}
use Rattle.golf_lex_tokens.specs.declared.token.Token.{Token}
use Rattle.golf_lex_tokens.specs.Lexes.{Lexes, IsFault, line_at}
use Rattle.golf_syntax_trees.specs.declared.declarations.File.{File}
use Rattle.golf_syntax_trees.specs.Reads.{Reads as HasTree, ReadsTokens, IsFaultOn}
use Rattle.golf_check_types.specs.Faults.{IsFirst}
use Rattle.golf_check_types.specs.Files.{Broken, Typed}
use Rattle.golf_code_of.specs.Files.{CodeOf}
use Rattle.golf_reader.specs.declared.refusal.Refusal.{Refusal}
use Rattle.golf_reader.specs.declared.refusal.Refusal.TheVariants as refusals

-- this tree reads the bytes, and breaks no rule
pub record HasTypedTree (bytes : List ℕ) (file : File) : Type 0 where
  pub tree : HasTree bytes file
  pub keeps : Typed file

-- no other typed file reads the bytes
abbrev pub IsOnly : List ℕ → File → Type 0
IsOnly bytes file = (other : File) → HasTypedTree bytes other → other ≡ file

-- no typed file reads the bytes
abbrev pub IsNotTyped : List ℕ → Type 0
IsNotTyped bytes = (file : File) → HasTypedTree bytes file → ⊥

-- the bytes do not lex: the fault is at this byte, on this line
pub record IsUnlexed (bytes : List ℕ) (line byte : ℕ) : Type 0 where
  pub fault : IsFault bytes byte
  pub on : line ≡ line_at bytes byte
  pub none : IsNotTyped bytes

-- they lex, and no file reads the tokens: the fault is on this line
pub record IsUnparsed (bytes : List ℕ) (line : ℕ) : Type 0 where
  pub tokens : List Token
  pub lexes : Lexes bytes tokens
  pub refused : (file : File) → ReadsTokens tokens file → ⊥
  pub fault : IsFaultOn tokens line
  pub none : IsNotTyped bytes

-- a file reads them, and this rule is the first that it breaks, on this line
pub record IsUntyped (bytes : List ℕ) (line rule : ℕ) : Type 0 where
  pub file : File
  pub tree : HasTree bytes file
  pub first : IsFirst rule line (Broken file)
  pub none : IsNotTyped bytes

-- a typed file reads them, no other one does, and this is its code
pub record HasCode (bytes : List ℕ) (code : Code) : Type 0 where
  pub file : File
  pub typed : HasTypedTree bytes file
  pub is : code ≡ CodeOf file
  pub only : IsOnly bytes file

-- the bytes have the fault that the refusal names; `Memory` says nothing of them
abbrev pub IsRefusedBy : List ℕ → Refusal → Type 0
IsRefusedBy bytes (refusals.Lexical line byte) = IsUnlexed bytes line byte
IsRefusedBy bytes (refusals.Syntax line) = IsUnparsed bytes line
IsRefusedBy bytes (refusals.Untyped line rule) = IsUntyped bytes line rule
IsRefusedBy bytes refusals.Memory = Unit {0}

-- the code of the file, or the reason for which it has none
abbrev pub WasRead : List ℕ → Result Code Refusal → Type 0
WasRead bytes (Ok code) = HasCode bytes code
WasRead bytes (Err refusal) = IsRefusedBy bytes refusal

-- ---- the stages of reading

-- the tree that reads the tokens, or the line of the fault
abbrev pub Parses : List Token → Result File Refusal → Type 0
Parses tokens (Ok file) = ReadsTokens tokens file
Parses tokens (Err (refusals.Lexical line byte)) = ⊥
Parses tokens (Err (refusals.Syntax line)) = ((file : File) → ReadsTokens tokens file → ⊥) × IsFaultOn tokens line
Parses tokens (Err (refusals.Untyped line rule)) = ⊥
Parses tokens (Err refusals.Memory) = Unit {0}

-- the tree that reads the bytes, or the reason for which there is none
abbrev pub WasParsed : List ℕ → Result File Refusal → Type 0
WasParsed bytes (Ok file) = HasTree bytes file
WasParsed bytes (Err (refusals.Lexical line byte)) = IsUnlexed bytes line byte
WasParsed bytes (Err (refusals.Syntax line)) = IsUnparsed bytes line
WasParsed bytes (Err (refusals.Untyped line rule)) = ⊥
WasParsed bytes (Err refusals.Memory) = Unit {0}

-- the tree, which keeps the rules; or the first rule that it breaks
abbrev pub IsChecked : File → Result File Refusal → Type 0
IsChecked file (Ok checked) = (checked ≡ file) × Typed file
IsChecked file (Err (refusals.Lexical line byte)) = ⊥
IsChecked file (Err (refusals.Syntax line)) = ⊥
IsChecked file (Err (refusals.Untyped line rule)) = IsFirst rule line (Broken file)
IsChecked file (Err refusals.Memory) = Unit {0}

-- The tree of the bytes. No other tree of the bytes is typed. Or the reason for which there is no tree.
abbrev pub WasTyped : List ℕ → Result File Refusal → Type 0
WasTyped bytes (Ok file) = HasTypedTree bytes file × IsOnly bytes file
WasTyped bytes (Err refusal) = IsRefusedBy bytes refusal
