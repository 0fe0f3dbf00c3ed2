-- The words of the program that looks at every schedule (profile). The documentation of `clap` says how words are split
-- for the commands and options below.
use Rattle.std.specs.Prelude.{ℕ, ◌≤◌, Bool, false, if◌then◌else◌, List, [], ◌∷◌, Option, Some, None, IfSome}
use Rattle.std.specs.Prelude.{option_and_then, option_map}
use Rattle.std.specs.Prelude.{codes, bytes_eq}
use Rattle.clap.specs.Walk.{Row, first_of}
use Rattle.clap.specs.Simple.{App, new_app, with_rule, with_subcommand}
use Rattle.golf_command_words.specs.Values.{Text, number_within}
use Rattle.golf_command_words.specs.Words.{setting}
use Rattle.golf_command_words.specs.ClapCommands.{valued, program_app, matched, run_by, with_run_options}
use Rattle.golf_command_words.specs.declared.line.CommandLine.{CommandLine}
use Rattle.golf_run_schedules.specs.Options.{IsWithinLimits}
use Rattle.golf_explore_words.specs.declared.line.ExploreLine.{ExploreLine}
use Rattle.golf_explore_words.specs.declared.line.Question.{Question}
use Rattle.golf_explore_words.specs.declared.line.Request.{Request}
use Rattle.golf_explore_words.specs.declared.line.SearchFor.{SearchFor}

-- the most states that a search keeps without `--states`, and the most that `--states` may ask for
abbrev pub default_states : ℕ
default_states = 100000

abbrev pub most_states : ℕ
most_states = 1000000

-- how many preemptions the schedules of a search have at most without `--preemptions`, and the most of them
abbrev pub default_preemptions : ℕ
default_preemptions = 2

abbrev pub most_preemptions : ℕ
most_preemptions = 16

-- the most seconds that `--seconds` may ask for
abbrev pub most_seconds : ℕ
most_seconds = 86400

-- the most numbers of written choices that `trace` takes
abbrev pub most_traced : ℕ
most_traced = 100000

-- ---- commands

-- `all`, with the option `--states`
abbrev pub all_app : App
all_app = with_rule (new_app (codes "all")) (valued (codes "states"))

-- `search`, with its options
abbrev pub search_app : App
search_app = with_rule (with_rule (with_rule (with_rule (new_app (codes "search")) (valued (codes "preemptions")))
    (valued (codes "states"))) (valued (codes "seconds"))) (valued (codes "for"))

-- `trace`, with the options of a run
abbrev pub trace_app : App
trace_app = with_run_options (new_app (codes "trace"))

abbrev pub explorer_app : App
explorer_app = with_subcommand (with_subcommand (with_subcommand program_app all_app.top) search_app.top) trace_app.top

-- the subcommand that the words name, with the values of its arguments
unfoldable pub split_of : List Text → Option (Text × List Row)
split_of words = matched explorer_app words

-- ---- command lines

abbrev pub states_by : List Row → Option ℕ
states_by rows = setting (first_of (codes "states") rows) default_states (number_within 1 most_states)

abbrev pub all_by : List Row → Option ExploreLine
all_by rows = option_map (λ most. ExploreLine.Ask (Question.All most)) (states_by rows)

-- `leak`, `panic` or `asleep`
abbrev pub aim_of : Text → Option SearchFor
aim_of text =
    if bytes_eq text (codes "leak") then Some SearchFor.Leak
    else (if bytes_eq text (codes "panic") then Some SearchFor.Panic
    else (if bytes_eq text (codes "asleep") then Some SearchFor.Asleep else None))

-- the value of `--seconds`, or no limit without it
abbrev pub seconds_or_none : Option Text → Option (Option ℕ)
seconds_or_none value = setting value None (λ text. option_map Some (number_within 1 most_seconds text))

abbrev pub search_by : List Row → Option ExploreLine
search_by rows =
    option_and_then (λ aim.
    option_and_then (λ preemptions.
    option_and_then (λ states.
    option_map (λ seconds. ExploreLine.Ask (Question.Search
    (record { aim = aim; preemptions = preemptions; states = states; seconds = seconds })))
    (seconds_or_none (first_of (codes "seconds") rows)))
    (states_by rows))
    (setting (first_of (codes "preemptions") rows) default_preemptions (number_within 0 most_preemptions)))
    (setting (first_of (codes "for") rows) SearchFor.Leak aim_of)

-- a run by its options, or one by threads
abbrev pub traced : CommandLine → Option ExploreLine
traced (CommandLine.Run options) = Some (ExploreLine.Trace options)
traced (CommandLine.Threads n) = Some (ExploreLine.TraceThreads n)
traced _ = None

abbrev pub trace_by : List Row → Option ExploreLine
trace_by rows = option_and_then traced (run_by most_traced rows)

abbrev pub line_by : Option (Text × List Row) → Option ExploreLine
line_by None = None
line_by (Some p) =
    if bytes_eq p.0 (codes "all") then all_by p.1
    else (if bytes_eq p.0 (codes "search") then search_by p.1
    else (if bytes_eq p.0 (codes "trace") then trace_by p.1 else None))

-- the command line that the words stand for
abbrev pub line_of : List Text → Option ExploreLine
line_of words = line_by (split_of words)

-- ---- requests

-- the only word is `--version`
abbrev pub asks_version : List Text → Bool
asks_version [] = false
asks_version (word ∷ []) = bytes_eq word (codes "--version")
asks_version (word ∷ other ∷ words) = false

-- what the words ask for: the number of the release, or a command line
abbrev pub request_of : List Text → Option Request
request_of words =
    if asks_version words then Some Request.Version else option_map (λ line. Request.Serve line) (line_of words)

-- the most states that a search for the answer keeps
abbrev pub states_in : Question → ℕ
states_in (Question.All most) = most
states_in (Question.Search options) = options.states

abbrev pub preemptions_in : Question → ℕ
preemptions_in (Question.All most) = 0
preemptions_in (Question.Search options) = options.preemptions

abbrev pub seconds_in : Question → Option ℕ
seconds_in (Question.All most) = None
seconds_in (Question.Search options) = options.seconds

-- the numbers of a question are within their limits
pub record IsWithinQuestion (question : Question) : Type 0 where
  pub preemptions : preemptions_in question ≤ most_preemptions
  pub some_states : 1 ≤ states_in question
  pub few_states : states_in question ≤ most_states
  pub seconds : IfSome (seconds_in question) (λ s. (1 ≤ s) × (s ≤ most_seconds))

-- the numbers of a command line are within their limits
abbrev pub IsSearchWithin : ExploreLine → Type 0
IsSearchWithin (ExploreLine.Ask question) = IsWithinQuestion question
IsSearchWithin (ExploreLine.Trace options) = IsWithinLimits options
IsSearchWithin (ExploreLine.TraceThreads n) = (1 ≤ n) × (n ≤ 16)

abbrev pub IsRequestWithin : Request → Type 0
IsRequestWithin Request.Version = Unit {0}
IsRequestWithin (Request.Serve line) = IsSearchWithin line
