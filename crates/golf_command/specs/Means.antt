-- The meaning of the status of a call: on the words, on the file, on the bytes that the sinks got, and on faults.
use Rattle.std.specs.Prelude.{◌≡◌, ℕ, ◌≤◌, ◌⊎◌, List, [], ◌∷◌, ◌++◌, map, Option, Some, None, string_bytes}
use Rattle.std.specs.declared.string.String.{String}
use Rattle.std.specs.declared.alloc.Global.{Global}
use Rattle.std.specs.Io.KnownBytes.{Appends, Keeps, IsAtEnd}
use Rattle.golf_base.specs.Causes.{Rose}
use Rattle.golf_data.specs.declared.code.Code.{Code}
use Rattle.golf_syntax_trees.specs.declared.declarations.File.{File}
use Rattle.golf_code_of.specs.Files.{CodeOf}
use Rattle.golf_run_schedules.specs.declared.options.RunOptions.{RunOptions}
use Rattle.golf_command_words.specs.declared.line.CommandLine.{CommandLine}
use Rattle.golf_run_texts.specs.declared.status.Status.{Status}
use Rattle.golf_run_texts.specs.declared.status.Status.TheVariants as s
use Rattle.golf_run_texts.specs.Fixed.{usage_text, read_fault_text, no_memory_text}
use Rattle.golf_run_texts.specs.Writes.{Write}
use Rattle.golf_run.specs.HasRun.{Sinks, GotWrites, IsPrefixOf, HasFailed, IsSteady}
use Rattle.golf_command.specs.Ways.{Way, IsWayOf, options_of, status_for, out_for, err_for, writes_for}
use Rattle.golf_command.specs.Promises.{StandFor, IsNoLine, ReadsFile, IsFileOf, Accepts, AreTrue, MovesAlways}
use Rattle.golf_command.specs.Promises.{MeansItsSource, RefusedBy, WordsMean}

-- the bytes of the words
abbrev pub words_of : List (String Global) → List (List ℕ)
words_of words = map string_bytes words

-- A source and two sinks at one time: the bytes that are left, those that were written, and how often each has failed.
-- The bytes are there only if they are known.
pub record View : Type 0 where
  pub left : Option (List ℕ)
  pub read_faults : ℕ
  pub sinks : Sinks

abbrev pub seen : Option (List ℕ) → ℕ → Sinks → View
seen left read_faults sinks = record { left = left; read_faults = read_faults; sinks = sinks }

-- ---- the writes that the sinks got

-- the sinks got the first writes whole, and a prefix of the next write, whose sink failed, and nothing more
pub record Breaks (old new : Sinks) (done : List Write) (cut : Write) : Type 0 where
  pub prefix : Write
  pub is_prefix : IsPrefixOf prefix cut
  pub got : GotWrites (done ++ prefix ∷ []) old new
  pub failed : HasFailed cut old new

-- ---- the meaning of a status on a file

-- the reports of the run of the code are true, and no turn of it is ever stuck
pub record IsSoundRun (code : Code) (options : RunOptions) : Type 0 where
  pub reports : AreTrue code options
  pub moves : MovesAlways code options

-- if the file is run, the run is sound
abbrev pub IsSoundBy : Option RunOptions → Code → Type 0
IsSoundBy (Some options) code = IsSoundRun code options
IsSoundBy None code = Unit {0}

-- An accepted file is sound in the given way. The code of each function does what its source says. The run, if there is
-- one, is sound.
pub record IsSound (way : Way) (file : File) : Type 0 where
  pub source : MeansItsSource file
  pub run : IsSoundBy (options_of way) (CodeOf file)

-- the first writes of a sound way of the command line over the file
pub record Begins (line : CommandLine) (file : File) (done : List Write) : Type 0 where
  pub way : Way
  pub is_way : IsWayOf line file way
  pub later : List Write
  pub order : writes_for way (CodeOf file) ≡ done ++ later
  pub sound : IsSound way file

-- the first writes over the file of these bytes; none if it is refused
pub record AreFirst (line : CommandLine) (bytes : List ℕ) (done : List Write) : Type 0 where
  pub accepted : (file : File) → Accepts bytes file → Begins line file done
  pub refused : ((file : File) → Accepts bytes file → ⊥) → done ≡ []

-- The writes that may be done before memory runs out. A run by options may have done its first writes, and any other
-- command line has done none.
abbrev pub MayStand : CommandLine → List Write → Type 0
MayStand (CommandLine.Run options) done = Unit {0}
MayStand (CommandLine.Generate n) done = done ≡ []
MayStand (CommandLine.Threads n) done = done ≡ []
MayStand CommandLine.Meaning done = done ≡ []

-- the text of a cause, which may follow these writes; only the file of a command line that reads is refused
pub data IsCause (line : CommandLine) (bytes : List ℕ) (done : List Write) : List ℕ → Type 0 where
  Refusal : (text : List ℕ) → ReadsFile line → RefusedBy bytes text → IsCause line bytes done text
  OutOfMemory : MayStand line done → IsCause line bytes done no_memory_text

-- the write that may follow these: the next write of the way, or the text of a cause
pub data MayFollow (line : CommandLine) (bytes : List ℕ) (done : List Write) : Write → Type 0 where
  Next : (write : Write) → AreFirst line bytes (done ++ write ∷ []) → MayFollow line bytes done write
  Cause : (text : List ℕ) → AreFirst line bytes done → IsCause line bytes done text
      → MayFollow line bytes done (Write.ToErr text)

-- The file was accepted, and each sink got its whole text. After a run these are the output and the reports of the
-- plain machine, with the last line. If nothing is run, it is the line that says how many functions agree.
pub record GoesWhole (line : CommandLine) (bytes : List ℕ) (answer : Status) (old new : Sinks) : Type 0 where
  pub file : File
  pub accepts : Accepts bytes file
  pub way : Way
  pub is_way : IsWayOf line file way
  pub status : answer ≡ status_for way (CodeOf file)
  pub out : Appends old.out new.out (out_for way (CodeOf file))
  pub err : Appends old.err new.err (err_for way (CodeOf file))
  pub sound : IsSound way file

-- the command line reads a file, which was refused, and standard error got the line with the reason
pub record IsRefused (line : CommandLine) (bytes : List ℕ) (old new : Sinks) : Type 0 where
  pub reads : ReadsFile line
  pub text : List ℕ
  pub why : RefusedBy bytes text
  pub got : GotWrites (Write.ToErr text ∷ []) old new

-- The meaning of a status on a file's bytes and on the writes that the sinks got.
abbrev pub FileMeans : CommandLine → List ℕ → Status → Sinks → Sinks → Type 0
FileMeans line bytes s.Clean old new = GoesWhole line bytes s.Clean old new
FileMeans line bytes s.Found old new = GoesWhole line bytes s.Found old new
FileMeans line bytes s.Crashed old new = GoesWhole line bytes s.Crashed old new
FileMeans line bytes s.Spent old new = GoesWhole line bytes s.Spent old new
FileMeans line bytes s.Refused old new = IsRefused line bytes old new
FileMeans line bytes s.Usage old new = ⊥
FileMeans line bytes s.ReadFault old new = ⊥
FileMeans line bytes s.WriteFault old new = (done : List Write)
    × ((cut : Write) × MayFollow line bytes done cut × Breaks old new done cut)
FileMeans line bytes s.Memory old new = (done : List Write) × MayStand line done × AreFirst line bytes done
    × GotWrites (done ++ Write.ToErr no_memory_text ∷ []) old new

-- ---- the meaning of a status on a call

-- a line says why nothing was done, with its status; or the write of that line failed
abbrev pub Says : Status → List ℕ → Status → Sinks → Sinks → Type 0
Says status text answer old new =
    ((answer ≡ status) × GotWrites (Write.ToErr text ∷ []) old new × IsSteady old new)
    ⊎ ((answer ≡ s.WriteFault) × Breaks old new [] (Write.ToErr text))

-- the source of a command line that reads failed, and the sinks got the line that says so
pub record IsUnread (line : CommandLine) (answer : Status) (old new : View) : Type 0 where
  pub reads : ReadsFile line
  pub failed : Rose old.read_faults new.read_faults
  pub says : Says s.ReadFault read_fault_text answer old.sinks new.sinks

-- the status is one of a command line whose file was accepted
abbrev pub IsWholeEnd : Status → Type 0
IsWholeEnd s.Clean = Unit {0}
IsWholeEnd s.Found = Unit {0}
IsWholeEnd s.Crashed = Unit {0}
IsWholeEnd s.Spent = Unit {0}
IsWholeEnd _ = ⊥

-- The status has its meaning on the file of the command line. If the command line reads a file and the file was
-- accepted, the source is at its end.
pub record TellsOfFile (line : CommandLine) (answer : Status) (old new : View) : Type 0 where
  pub bytes : List ℕ
  pub is_file : IsFileOf line old.left bytes
  pub means : FileMeans line bytes answer old.sinks new.sinks
  pub at_end : ReadsFile line → IsWholeEnd answer → IsAtEnd new.left

-- the meaning of a status if the words are this command line
abbrev pub LineMeans : CommandLine → Status → View → View → Type 0
LineMeans line answer old new = IsUnread line answer old new ⊎ TellsOfFile line answer old new

-- the meaning of a status if the words are no command line
abbrev pub UsageMeans : Status → View → View → Type 0
UsageMeans answer old new = Says s.Usage usage_text answer old.sinks new.sinks
    ⊎ Says s.Memory no_memory_text answer old.sinks new.sinks

-- which counts of faults rose: those that the status names, and no other
abbrev pub SinkCauses : Status → Sinks → Sinks → Type 0
SinkCauses s.WriteFault old new = Rose old.out_faults new.out_faults ⊎ Rose old.err_faults new.err_faults
SinkCauses _ old new = IsSteady old new

abbrev pub SourceCauses : Status → ℕ → ℕ → Type 0
SourceCauses s.ReadFault before now = Rose before now
SourceCauses s.WriteFault before now = before ≤ now
SourceCauses _ before now = now ≡ before

pub record Causes (answer : Status) (old new : View) : Type 0 where
  pub source : SourceCauses answer old.read_faults new.read_faults
  pub sinks : SinkCauses answer old.sinks new.sinks

-- no count of faults rose
pub record IsQuiet (old new : View) : Type 0 where
  pub source : Rose old.read_faults new.read_faults → ⊥
  pub out : Rose old.sinks.out_faults new.sinks.out_faults → ⊥
  pub err : Rose old.sinks.err_faults new.sinks.err_faults → ⊥

-- the sinks got all that the words and the file mean, with their status
pub record GotMeaning (words : List (List ℕ)) (answer : Status) (old new : View) : Type 0 where
  pub out : List ℕ
  pub err : List ℕ
  pub meaning : WordsMean words old.left answer out err
  pub got_out : Appends old.sinks.out new.sinks.out out
  pub got_err : Appends old.sinks.err new.sinks.err err

-- if no count of faults rose, the sinks got that meaning, or memory ran out
abbrev pub IsComplete : List (List ℕ) → Status → View → View → Type 0
IsComplete words answer old new = IsQuiet old new → (answer ≡ s.Memory) ⊎ GotMeaning words answer old new

-- the meaning of a status on a file's bytes, and the sinks that failed
pub record FileTells (line : CommandLine) (bytes : List ℕ) (answer : Status) (old new : Sinks) : Type 0 where
  pub means : FileMeans line bytes answer old new
  pub causes : SinkCauses answer old new

-- the meaning of the status of a call if the words are this command line, and the causes of a fault
pub record LineTells (line : CommandLine) (answer : Status) (old new : View) : Type 0 where
  pub means : LineMeans line answer old new
  pub causes : Causes answer old new

-- nothing was read: the source has all that it had, and its count of faults is the same
pub record IsUntouched (old new : View) : Type 0 where
  pub left : Keeps old.left new.left
  pub faults : new.read_faults ≡ old.read_faults

-- All that the status of a call says. It has a meaning if the words are a command line, and one if they are not. Only a
-- command line that reads touches the source. The status names what failed. Without a fault nothing is missing.
pub record Tells (words : List (List ℕ)) (answer : Status) (old new : View) : Type 0 where
  pub line : (line : CommandLine) → StandFor words line → LineMeans line answer old new
  pub usage : IsNoLine words → UsageMeans answer old new
  pub unread : ((line : CommandLine) → StandFor words line → ReadsFile line → ⊥) → IsUntouched old new
  pub causes : Causes answer old new
  pub complete : IsComplete words answer old new
