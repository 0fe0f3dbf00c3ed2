-- The ways in which a command line may go, and the texts of each.
use Rattle.std.specs.Prelude.{◌≡◌, ℕ, ◌<◌, ◌≤◌, false, List, [], ◌∷◌, ◌++◌, length, map, take, slice_get, Option, Some}
use Rattle.std.specs.Prelude.{None}
use Rattle.golf_data.specs.declared.code.Code.{Code}
use Rattle.golf_model.specs.State.{State, start, runnable, ending}
use Rattle.golf_model.specs.Runs.{Event, run}
use Rattle.golf_syntax_trees.specs.declared.declarations.File.{File}
use Rattle.golf_code_of.specs.Files.{CodeOf}
use Rattle.golf_meaning_statements.specs.Files.{function_count}
use Rattle.golf_run_schedules.specs.declared.schedule.Schedule.{Schedule}
use Rattle.golf_run_schedules.specs.declared.options.RunOptions.{RunOptions}
use Rattle.golf_command_words.specs.declared.line.CommandLine.{CommandLine}
use Rattle.golf_run_texts.specs.declared.status.Status.{Status}
use Rattle.golf_run_texts.specs.declared.status.Status.TheVariants as s
use Rattle.golf_run_texts.specs.Texts.{history_line, meaning_line}
use Rattle.golf_run_texts.specs.Output.{events_of, status_of, out_of, end_of, err_of}
use Rattle.golf_run_texts.specs.Writes.{Write, writes_of}
use Rattle.golf_world.specs.History.{most_entries, number_at}
use Rattle.golf_command.specs.GeneratedRuns.{generated_options, generated_summary, generated_writes}

-- ---- turns by threads

-- the turns with these numbers, and no collections except for those of the program
abbrev pub turns_with : List ℕ → List Event
turns_with ns = map (λ n. Event.Turn n) ns

-- the state of the plain machine after these turns
unfoldable pub after_turns : Code → List ℕ → State
after_turns code ns = run code (start code) (turns_with ns)

-- The number n is at the place t. One of the threads took that turn. The number follows from the thread, the place, and
-- how many goroutines could run. The program had not ended before.
pub record IsTurnAt (code : Code) (threads : ℕ) (ns : List ℕ) (t n : ℕ) : Type 0 where
  pub thread : ℕ
  pub is_one : thread < threads
  pub number : n ≡ number_at thread t (length (runnable (after_turns code (take t ns))))
  pub goes : ending (after_turns code (take t ns)) ≡ None

-- the options that repeat a run whose turns had these numbers: written choices, without recovery
unfoldable pub history_options : List ℕ → RunOptions
history_options ns = record {
  schedule = Schedule.Choices ns;
  turns = most_entries;
  every = None;
  markers = 1;
  recover = false;
  why = false;
}

-- The numbers of all turns of a run by this many threads. No proper prefix of them ends the program. All together end
-- it, or are as many as a history may have.
pub record AreTurns (code : Code) (threads : ℕ) (ns : List ℕ) : Type 0 where
  pub each : (t n : ℕ) → slice_get ns t ≡ Some n → IsTurnAt code threads ns t n
  pub few : length ns ≤ most_entries
  pub whole : ending (after_turns code ns) ≡ None → length ns ≡ most_entries
  pub events : events_of (history_options ns) ≡ turns_with ns

-- ---- ways

-- The way of a command line: a run by options, the run of a generated file, or a run by threads whose turns had these
-- numbers. Or nothing is run, and this many functions are compared with their source.
pub data Way : Type 0 where
  ByOptions : (options : RunOptions) → Way
  Generated : (parts : ℕ) → Way
  ByThreads : (numbers : List ℕ) → Way
  Compared : (functions : ℕ) → Way

-- the command line may go over this file in this way
abbrev pub IsWayOf : CommandLine → File → Way → Type 0
IsWayOf (CommandLine.Run options) file way = way ≡ Way.ByOptions options
IsWayOf (CommandLine.Generate n) file way = way ≡ Way.Generated n
IsWayOf (CommandLine.Threads n) file way = (ns : List ℕ) × (way ≡ Way.ByThreads ns) × AreTurns (CodeOf file) n ns
IsWayOf CommandLine.Meaning file way = way ≡ Way.Compared (function_count file.declarations)

-- the options of a run with the same texts, if anything is run
abbrev pub options_of : Way → Option RunOptions
options_of (Way.ByOptions options) = Some options
options_of (Way.Generated n) = Some generated_options
options_of (Way.ByThreads ns) = Some (history_options ns)
options_of (Way.Compared n) = None

-- the status: that of the run, or 0 if nothing is run
abbrev pub status_by_options : Option RunOptions → Code → Status
status_by_options (Some options) code = status_of code options
status_by_options None code = s.Clean

abbrev pub status_for : Way → Code → Status
status_for way code = status_by_options (options_of way) code

-- the text of standard output, and the text of standard error
abbrev pub out_for : Way → Code → List ℕ
out_for (Way.ByOptions options) code = out_of code options
out_for (Way.Generated n) code = generated_summary n code
out_for (Way.ByThreads ns) code = out_of code (history_options ns)
out_for (Way.Compared n) code = meaning_line n

abbrev pub err_for : Way → Code → List ℕ
err_for (Way.ByOptions options) code = err_of code options
err_for (Way.Generated n) code = end_of code generated_options
err_for (Way.ByThreads ns) code = err_of code (history_options ns) ++ history_line ns
err_for (Way.Compared n) code = []

-- the writes in their order; a run by threads writes nothing before all turns are taken
abbrev pub writes_for : Way → Code → List Write
writes_for (Way.ByOptions options) code = writes_of code options
writes_for (Way.Generated n) code = generated_writes n code
writes_for (Way.ByThreads ns) code = Write.ToOut (out_for (Way.ByThreads ns) code)
    ∷ Write.ToErr (err_for (Way.ByThreads ns) code) ∷ []
writes_for (Way.Compared n) code = Write.ToOut (meaning_line n) ∷ []
