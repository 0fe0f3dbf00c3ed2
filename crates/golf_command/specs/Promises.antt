-- The meaning of the words and a file: the status of the program, and the texts that it writes.
use Rattle.std.specs.Prelude.{◌≡◌, ℕ, false, ◌≤◌, ◌<◌, ◌↔◌, List, [], length, Option, Some, None, IfSome}
use Rattle.golf_theory.specs.Maps.{Entry}
use Rattle.golf_theory.specs.Membership.{In}
use Rattle.golf_data.specs.declared.code.Code.{Code}
use Rattle.golf_model.specs.State.{State, start, ending, is_running}
use Rattle.golf_model.specs.Views.{GoroutineView}
use Rattle.golf_model.specs.LiveSet.{dead, Dead, Node, Live}
use Rattle.golf_model.specs.Runs.{Event, run, stops}
use Rattle.golf_model.specs.Futures.{Leads, Still}
use Rattle.golf_model_futures.specs.ReportedGoroutines.{TellsOfEach}
use Rattle.golf_model.specs.Turn.{MovesOn}
use Rattle.golf_syntax_trees.specs.declared.declarations.File.{File}
use Rattle.golf_code_of.specs.Files.{CodeOf}
use Rattle.golf_meaning_runs.specs.FileLaws.{MeaningsSound}
use Rattle.golf_meaning_runs.specs.Agreement.{SourcesAgree}
use Rattle.golf_meaning_runs.specs.Laws.{RunMeansSource}
use Rattle.golf_meaning_runs.specs.JoinedRuns.{RunIsJoined}
use Rattle.golf_reader.specs.Refusals.{HasTypedTree, IsUnlexed, IsUnparsed, IsUntyped}
use Rattle.golf_run_schedules.specs.declared.options.RunOptions.{RunOptions}
use Rattle.golf_command_sample.specs.File.{file as generated_file}
use Rattle.golf_command_words.specs.declared.line.CommandLine.{CommandLine}
use Rattle.golf_command_words.specs.Words.{line_of}
use Rattle.golf_run_texts.specs.declared.status.Status.{Status}
use Rattle.golf_run_texts.specs.declared.status.Status.TheVariants as s
use Rattle.golf_run_texts.specs.Fixed.{most_bytes, usage_text, too_long_text}
use Rattle.golf_run_texts.specs.Texts.{lexical_line, syntax_line, rule_line}
use Rattle.golf_run_texts.specs.Output.{events_of, reports_of}
use Rattle.golf_command.specs.Ways.{Way, IsWayOf, status_for, out_for, err_for}

-- ---- the command line

-- the words stand for this command line
abbrev pub StandFor : List (List ℕ) → CommandLine → Type 0
StandFor words line = line_of words ≡ Some line

-- the words stand for no command line
abbrev pub IsNoLine : List (List ℕ) → Type 0
IsNoLine words = line_of words ≡ None

-- the command line reads its file from the source
abbrev pub ReadsFile : CommandLine → Type 0
ReadsFile (CommandLine.Run options) = Unit {0}
ReadsFile (CommandLine.Generate n) = ⊥
ReadsFile (CommandLine.Threads n) = Unit {0}
ReadsFile CommandLine.Meaning = Unit {0}

-- the bytes of the file: those that the source had left, if they are known, or those of the generated file
abbrev pub IsFileOf : CommandLine → Option (List ℕ) → List ℕ → Type 0
IsFileOf (CommandLine.Run options) left bytes = IfSome left (λ known. known ≡ bytes)
IsFileOf (CommandLine.Generate n) left bytes = bytes ≡ generated_file n
IsFileOf (CommandLine.Threads n) left bytes = IfSome left (λ known. known ≡ bytes)
IsFileOf CommandLine.Meaning left bytes = IfSome left (λ known. known ≡ bytes)

-- ---- the file

-- the program accepts the file: it is not too long, and this tree reads it and breaks no rule
pub record Accepts (bytes : List ℕ) (file : File) : Type 0 where
  pub within : length bytes ≤ most_bytes
  pub typed : HasTypedTree bytes file

-- The reports of a run are true. Each names exactly the goroutines that are dead right before its collection and that
-- no earlier report named, each once. These are the blocked goroutines outside the live set. A dead goroutine never
-- takes another step, however the run goes on. To each other blocked goroutine a chain leads from a root: a list in which
-- each entry is a root, or an earlier entry makes it live.
pub record AreTrue (code : Code) (options : RunOptions) : Type 0 where
  pub each : TellsOfEach [] (stops code (events_of options)) (reports_of code options)
  pub live : (p : State) (g : ℕ) (r : GoroutineView) → In p (stops code (events_of options)) → Entry p.goroutines g r
      → is_running r.mode ≡ false → (In g (dead p) → ⊥) → Live p (Node.AGoroutine g)
  pub dead : (p : State) (g : ℕ) → In p (stops code (events_of options)) → In g (dead p) ↔ Dead p g
  pub still : (p : State) (g : ℕ) → In p (stops code (events_of options)) → Dead p g → Still code p g

-- On the plain machine no state that events lead to from s is stuck: until the program has ended, a rule fits for each
-- turn.
abbrev pub GoesOnFrom : Code → State → Type 0
GoesOnFrom code s = (events : List Event) (c : ℕ) → ending (run code s events) ≡ None
    → MovesOn code (run code s events) c

-- No turn of the program is stuck: no turn of its run, no turn after any state right before a collection, and no turn
-- of a state that moves reach. These moves may be collections that free and remove.
pub record MovesAlways (code : Code) (options : RunOptions) : Type 0 where
  pub run : GoesOnFrom code (start code)
  pub continuations : (p : State) → In p (stops code (events_of options)) → GoesOnFrom code p
  pub moves : (s : State) (c : ℕ) → Leads code s → ending s ≡ None → MovesOn code s c

-- The code of each function does what its source says. The source of function 0 is the initialisers of the globals, in
-- source order, and the call of `main`. That of a function made for `go` or `defer` is the one operation that the
-- statement names.
--
-- Take as many arguments as it has parameters, and any answers. Both have the same visible operations in the same
-- order, with the same end. For each bound of one there is a bound of the other. The source lacks no rule. If it looks
-- at the kinds of answers, only an answer can make it unfit.
--
-- The same holds of each call in each run of the plain machine, after each turn. With the answers that a call got, the
-- operations of its source begin with those that the call has shown. If the call waits, they are exactly these, and the
-- source waits at the last one. If it has ended, they are exactly these, with the same end. Its code means the same.
--
-- The calls of a run are joined. Function and arguments of a call are those that the call which began it has shown, with
-- its call instruction, its `go` or its `defer`. Each `go` has started a goroutine. The answer that a caller got of a
-- call is what that call returned. The deferred calls of a call run after its end, the latest first, each before the
-- next. A call that a panic reaches leaves after the last of them, and its caller gets no answer.
pub record MeansItsSource (file : File) : Type 0 where
  pub agrees : SourcesAgree file
  pub lacks_no_rule : MeaningsSound file
  pub runs : (events : List Event) → RunMeansSource file events
  pub joined : (events : List Event) → RunIsJoined file events

-- the line with which a file is refused
pub data RefusedBy (bytes : List ℕ) : List ℕ → Type 0 where
  TooLong : most_bytes < length bytes → RefusedBy bytes too_long_text
  Unlexed : (line byte : ℕ) → length bytes ≤ most_bytes → IsUnlexed bytes line byte
      → RefusedBy bytes (lexical_line line byte)
  Unparsed : (line : ℕ) → length bytes ≤ most_bytes → IsUnparsed bytes line → RefusedBy bytes (syntax_line line)
  Untyped : (line rule : ℕ) → length bytes ≤ most_bytes → IsUntyped bytes line rule
      → RefusedBy bytes (rule_line line rule)

-- ---- the command line and the file together

-- the status, and the texts of standard output and standard error; only the file of a command line that reads can be
-- refused
pub data WordsMean (words : List (List ℕ)) (left : Option (List ℕ)) : Status → List ℕ → List ℕ → Type 0 where
  Misused : IsNoLine words → WordsMean words left s.Usage [] usage_text
  Refused : (line : CommandLine) (bytes text : List ℕ) → StandFor words line → ReadsFile line → IsFileOf line left bytes
      → RefusedBy bytes text → WordsMean words left s.Refused [] text
  Goes : (line : CommandLine) (bytes : List ℕ) (file : File) (way : Way) → StandFor words line
      → IsFileOf line left bytes
      → Accepts bytes file → IsWayOf line file way
      → WordsMean words left (status_for way (CodeOf file)) (out_for way (CodeOf file)) (err_for way (CodeOf file))
