-- The result of reading the file of a command line.
use Rattle.std.specs.Prelude.{◌≡◌, ℕ, ◌≤◌, ◌⊎◌, List, length, Option, IfSome, Result, Ok, Err}
use Rattle.std.specs.Io.KnownBytes.{IsAtEnd}
use Rattle.golf_base.specs.Causes.{Rose}
use Rattle.golf_data.specs.declared.code.Code.{Code}
use Rattle.golf_syntax_trees.specs.declared.declarations.File.{File}
use Rattle.golf_code_of.specs.Files.{CodeOf}
use Rattle.golf_reader.specs.Refusals.{IsOnly}
use Rattle.golf_command_words.specs.declared.line.CommandLine.{CommandLine}
use Rattle.golf_command_words.specs.Words.{IsWithin}
use Rattle.golf_run_texts.specs.declared.status.Status.{Status}
use Rattle.golf_run_texts.specs.declared.status.Status.TheVariants as s
use Rattle.golf_run_texts.specs.Fixed.{most_bytes, read_fault_text, no_memory_text}
use Rattle.golf_run.specs.HasRun.{sinks}
use Rattle.golf_command.specs.Ends.{EndsWith}
use Rattle.golf_command.specs.Promises.{ReadsFile, Accepts, RefusedBy}
use Rattle.golf_command.specs.Means.{seen, LineTells}

-- a line says why there is no file, and the call of a command line that reads a file ends so
abbrev pub EndsUnread : Status → Option (List ℕ) → Option (List ℕ) → ℕ → ℕ → Option (List ℕ) → Option (List ℕ) → ℕ → ℕ
    → Type 0
EndsUnread status left left' before now err err' faults faults' =
    (line : CommandLine) → ReadsFile line → IsWithin line → (out : Option (List ℕ)) (out_faults : ℕ)
    → LineTells line status (seen left before (sinks out out_faults err faults))
    (seen left' now (sinks out out_faults err' faults'))

-- ---- why there is no file, for a program with any command lines

-- the source failed, and a line says so
pub record SourceFailed (status : Status) (before now : ℕ) (err err' : Option (List ℕ)) (faults faults' : ℕ) : Type 0
  where
    pub rose : Rose before now
    pub later : before ≤ now
    pub says : EndsWith status s.ReadFault read_fault_text err err' faults faults'

-- the bytes of the source are refused with this text, and a line says so
pub record FileRefused (status : Status) (left : Option (List ℕ)) (before now : ℕ) (err err' : Option (List ℕ))
    (faults faults' : ℕ) : Type 0 where
  pub bytes : List ℕ
  pub told : IfSome left (λ known. known ≡ bytes)
  pub text : List ℕ
  pub why : RefusedBy bytes text
  pub quiet : now ≡ before
  pub says : EndsWith status s.Refused text err err' faults faults'

-- memory ran out, and a line says so
pub record MemoryRanOut (status : Status) (before now : ℕ) (err err' : Option (List ℕ)) (faults faults' : ℕ) : Type 0
  where
    pub quiet : now ≡ before
    pub says : EndsWith status s.Memory no_memory_text err err' faults faults'

-- one of the three holds, if there is no file
abbrev pub FailsSo : {T : Type 0} → Result T Status → Option (List ℕ) → ℕ → ℕ → Option (List ℕ) → Option (List ℕ) → ℕ
    → ℕ → Type 0
FailsSo (Ok file) left before now err err' faults faults' = Unit {0}
FailsSo (Err status) left before now err err' faults faults' =
    SourceFailed status before now err err' faults faults' ⊎ (FileRefused status left before now err err' faults faults'
    ⊎ MemoryRanOut status before now err err' faults faults')

-- ---- the file

-- the source was read to its end; these are its bytes, at most as many as a file may have
pub record HasFetched (bytes : List ℕ) (left left' : Option (List ℕ)) (before now : ℕ) : Type 0 where
  pub told : IfSome left (λ known. known ≡ bytes)
  pub at_end : IsAtEnd left'
  pub quiet : now ≡ before
  pub within : length bytes ≤ most_bytes

-- the source was read to its end; the program accepts this file, and no other one for these bytes
pub record HasFile (file : File) (left left' : Option (List ℕ)) (before now : ℕ) : Type 0 where
  pub bytes : List ℕ
  pub told : IfSome left (λ known. known ≡ bytes)
  pub at_end : IsAtEnd left'
  pub quiet : now ≡ before
  pub accepts : Accepts bytes file
  pub only : IsOnly bytes file

-- the bytes, and nothing was written; or the reason for which there are none
abbrev pub Fetches : Result (List ℕ) Status → Option (List ℕ) → Option (List ℕ) → ℕ → ℕ → Option (List ℕ)
    → Option (List ℕ) → ℕ → ℕ → Type 0
Fetches (Ok bytes) left left' before now err err' faults faults' = HasFetched bytes left left' before now × (err' ≡ err)
    × (faults' ≡ faults)
Fetches (Err status) left left' before now err err' faults faults' =
    EndsUnread status left left' before now err err' faults faults'

-- the code, and nothing was written; or the reason for which there is none
abbrev pub Loads : Result Code Status → Option (List ℕ) → Option (List ℕ) → ℕ → ℕ → Option (List ℕ) → Option (List ℕ)
    → ℕ → ℕ → Type 0
Loads (Ok code) left left' before now err err' faults faults' = (file : File) × HasFile file left left' before now
    × (code ≡ CodeOf file) × (err' ≡ err) × (faults' ≡ faults)
Loads (Err status) left left' before now err err' faults faults' =
    EndsUnread status left left' before now err err' faults faults'

-- the typed tree, and nothing was written; or the reason for which there is none
abbrev pub LoadsTree : Result File Status → Option (List ℕ) → Option (List ℕ) → ℕ → ℕ → Option (List ℕ)
    → Option (List ℕ) → ℕ → ℕ → Type 0
LoadsTree (Ok file) left left' before now err err' faults faults' =
    HasFile file left left' before now × (err' ≡ err) × (faults' ≡ faults)
LoadsTree (Err status) left left' before now err err' faults faults' =
    EndsUnread status left left' before now err err' faults faults'
