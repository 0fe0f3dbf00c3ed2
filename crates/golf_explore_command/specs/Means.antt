-- The meaning of the status of a call of the program that looks at every schedule.
use Rattle.std.specs.Prelude.{◌≡◌, ℕ, ◌⊎◌, Bool, false, List, [], ◌∷◌, ◌++◌, Option, Some, None, IfSome}
use Rattle.std.specs.Io.KnownBytes.{Keeps, IsAtEnd}
use Rattle.golf_data.specs.declared.code.Code.{Code}
use Rattle.golf_syntax_trees.specs.declared.declarations.File.{File}
use Rattle.golf_code_of.specs.Files.{CodeOf}
use Rattle.golf_run_texts.specs.declared.status.Status.{Status}
use Rattle.golf_run_texts.specs.declared.status.Status.TheVariants as s
use Rattle.golf_run_texts.specs.Fixed.{read_fault_text, no_memory_text}
use Rattle.golf_run_schedules.specs.declared.options.RunOptions.{RunOptions}
use Rattle.golf_run_texts.specs.Output.{status_of}
use Rattle.golf_run_texts.specs.Texts.{history_line}
use Rattle.golf_run_texts.specs.Writes.{Write}
use Rattle.golf_run.specs.HasRun.{Sinks, GotWrites, IsSteady, WasCut}
use Rattle.golf_run.specs.TraceWrites.{traces_of}
use Rattle.golf_command.specs.Promises.{Accepts, RefusedBy}
use Rattle.golf_command.specs.Means.{View, SourceCauses}
use Rattle.golf_command.specs.Ways.{history_options, AreTurns}
use Rattle.golf_explore_words.specs.declared.line.ExploreLine.{ExploreLine}
use Rattle.golf_explore_words.specs.declared.line.Question.{Question}
use Rattle.golf_explore_words.specs.declared.line.Request.{Request}
use Rattle.golf_explore_words.specs.Words.{asks_version, request_of, states_in}
use Rattle.golf_explore_command.specs.Texts.{usage_text, version_text, note_line}
use Rattle.golf_explore_command.specs.Answers.{IsAnswer}
use Rattle.golf_explore_command.specs.Progress.{MayTell, progress}

-- these bytes were left, if it is known which were
abbrev pub AreLeft : Option (List ℕ) → List ℕ → Type 0
AreLeft left bytes = IfSome left (λ known. known ≡ bytes)

-- the note of how much memory the states may take, and then the first lines of progress
abbrev pub noted : Question → ℕ → List Write
noted question told = Write.ToErr (note_line (states_in question)) ∷ progress told

-- the writes of a run by threads that had these turns: those of the run by their numbers, and then the numbers
abbrev pub history_traces : Code → List ℕ → List Write
history_traces code ns = traces_of code (history_options ns) ++ Write.ToErr (history_line ns) ∷ []

-- The result of a command line on a code: the status of the program, and its writes, in this order. There are lines of
-- progress only if they are asked for.
pub data CodeComes (code : Code) (shows : Bool) : ExploreLine → Status → List Write → Type 0 where
  Answered : (question : Question) (told : ℕ) (status : Status) (text : List ℕ) → MayTell shows told
      → IsAnswer code question status text
      → CodeComes code shows (ExploreLine.Ask question) status (noted question told ++ Write.ToOut text ∷ [])
  OutOfMemory : (question : Question)
      → CodeComes code shows (ExploreLine.Ask question) s.Memory (Write.ToErr no_memory_text ∷ [])
  OutOfMemoryLater : (question : Question) (told : ℕ) → MayTell shows told
      → CodeComes code shows (ExploreLine.Ask question) s.Memory
      (noted question told ++ Write.ToErr no_memory_text ∷ [])
  Traced : (options : RunOptions)
      → CodeComes code shows (ExploreLine.Trace options) (status_of code options) (traces_of code options)
  OutOfMemoryInTrace : (options : RunOptions) (done later : List Write) → traces_of code options ≡ done ++ later
      → CodeComes code shows (ExploreLine.Trace options) s.Memory (done ++ Write.ToErr no_memory_text ∷ [])
  TracedByThreads : (threads : ℕ) (ns : List ℕ) → AreTurns code threads ns
      → CodeComes code shows (ExploreLine.TraceThreads threads) (status_of code (history_options ns))
      (history_traces code ns)
  OutOfMemoryForTurns : (threads : ℕ)
      → CodeComes code shows (ExploreLine.TraceThreads threads) s.Memory (Write.ToErr no_memory_text ∷ [])
  OutOfMemoryInHistory : (threads : ℕ) (ns : List ℕ) (done later : List Write) → AreTurns code threads ns
      → history_traces code ns ≡ done ++ later
      → CodeComes code shows (ExploreLine.TraceThreads threads) s.Memory (done ++ Write.ToErr no_memory_text ∷ [])

-- The result of the words and the source. It depends on the bytes that were left in the source before and after the
-- call. For `--version` nothing is read, and memory does not run out.
pub data ComesOf (words : List (List ℕ)) (shows : Bool) (left after : Option (List ℕ))
    : Status → List Write → Type 0 where
  Misused : request_of words ≡ None → Keeps left after
      → ComesOf words shows left after s.Usage (Write.ToErr usage_text ∷ [])
  Versioned : request_of words ≡ Some Request.Version → Keeps left after
      → ComesOf words shows left after s.Clean (Write.ToOut version_text ∷ [])
  Unread : (line : ExploreLine) → request_of words ≡ Some (Request.Serve line)
      → ComesOf words shows left after s.ReadFault (Write.ToErr read_fault_text ∷ [])
  Refused : (line : ExploreLine) (bytes text : List ℕ) → request_of words ≡ Some (Request.Serve line)
      → AreLeft left bytes → RefusedBy bytes text
      → ComesOf words shows left after s.Refused (Write.ToErr text ∷ [])
  Served : (line : ExploreLine) (bytes : List ℕ) (file : File) (status : Status) (writes : List Write)
      → request_of words ≡ Some (Request.Serve line) → AreLeft left bytes → IsAtEnd after → Accepts bytes file
      → CodeComes (CodeOf file) shows line status writes → ComesOf words shows left after status writes
  NoMemory : asks_version words ≡ false → ComesOf words shows left after s.Memory (Write.ToErr no_memory_text ∷ [])

-- All was written, and the status is this one. Or a write failed: the writes before it are whole, a prefix of it is
-- done, and nothing was written after it.
abbrev pub Wrote : Status → List Write → Status → Sinks → Sinks → Type 0
Wrote status writes answer old new =
    ((answer ≡ status) × GotWrites writes old new × IsSteady old new)
    ⊎ ((answer ≡ s.WriteFault) × WasCut writes old new)

-- the meaning of the status of a command line on a code, and on the writes that the sinks got
pub record CodeTells (code : Code) (line : ExploreLine) (shows : Bool) (answer : Status)
    (old new : Sinks) : Type 0 where
  pub status : Status
  pub writes : List Write
  pub comes : CodeComes code shows line status writes
  pub wrote : Wrote status writes answer old new

-- The meaning of the status of a call: on its words, on the bytes in the source before and after, on the writes to the
-- sinks, and on faults. The counts of faults that rise are those that the status names.
pub record CallTells (words : List (List ℕ)) (shows : Bool) (answer : Status) (old new : View) : Type 0 where
  pub status : Status
  pub writes : List Write
  pub comes : ComesOf words shows old.left new.left status writes
  pub wrote : Wrote status writes answer old.sinks new.sinks
  pub source : SourceCauses answer old.read_faults new.read_faults
