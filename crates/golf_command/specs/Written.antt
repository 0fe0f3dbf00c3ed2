-- The texts of a run that is over, and the writes of them.
use Rattle.std.specs.Prelude.{◌≡◌, ℕ, ◌⊎◌, Bool, true, false, List, [], ◌∷◌, Result, Ok, Err}
use Rattle.golf_base.specs.declared.Memory.{Memory}
use Rattle.golf_data.specs.declared.code.Code.{Code}
use Rattle.golf_run_texts.specs.declared.status.Status.{Status}
use Rattle.golf_run_texts.specs.declared.status.Status.TheVariants as s
use Rattle.golf_run_texts.specs.Fixed.{no_memory_text}
use Rattle.golf_run_texts.specs.Writes.{Write}
use Rattle.golf_run.specs.HasRun.{Sinks, GotWrites, IsSteady, WasCut}
use Rattle.golf_command.specs.declared.texts.RunTexts.{RunTexts}
use Rattle.golf_command.specs.Ways.{Way, AreTurns, status_for, out_for, err_for}
use Rattle.golf_command.specs.Means.{Breaks, Says}

-- the texts and the status are those of a run in this way
pub record AreTextsOf (of : RunTexts) (way : Way) (code : Code) : Type 0 where
  pub status : of.status ≡ status_for way code
  pub out : of.out ≡ out_for way code
  pub err : of.err ≡ err_for way code

-- the texts are those of a run by this many threads
abbrev pub AreTextsByThreads : RunTexts → ℕ → Code → Type 0
AreTextsByThreads of threads code = (ns : List ℕ) × AreTurns code threads ns × AreTextsOf of (Way.ByThreads ns) code

abbrev pub text_writes : RunTexts → List Write
text_writes of = Write.ToOut of.out ∷ Write.ToErr of.err ∷ []

-- both texts were written, or the write of one of them was cut
abbrev pub WroteBoth : Bool → List ℕ → List ℕ → Sinks → Sinks → Type 0
WroteBoth true text line old new = GotWrites (Write.ToOut text ∷ Write.ToErr line ∷ []) old new × IsSteady old new
WroteBoth false text line old new = WasCut (Write.ToOut text ∷ Write.ToErr line ∷ []) old new

-- All was written with the status of the run, or a write was cut. Without texts only the line that says so was written.
abbrev pub HasWrittenRun : Result RunTexts Memory → Status → Sinks → Sinks → Type 0
HasWrittenRun (Ok of) answer old new =
    ((answer ≡ of.status) × GotWrites (text_writes of) old new × IsSteady old new)
    ⊎ ((answer ≡ s.WriteFault) × WasCut (text_writes of) old new)
HasWrittenRun (Err m) answer old new = Says s.Memory no_memory_text answer old new

-- The text was written to standard output, with status 0, or its write was cut. Without a text only the line that says
-- so was written.
abbrev pub HasWrittenText : Result (List ℕ) Memory → Status → Sinks → Sinks → Type 0
HasWrittenText (Ok text) answer old new =
    ((answer ≡ s.Clean) × GotWrites (Write.ToOut text ∷ []) old new × IsSteady old new)
    ⊎ ((answer ≡ s.WriteFault) × Breaks old new [] (Write.ToOut text))
HasWrittenText (Err m) answer old new = Says s.Memory no_memory_text answer old new
