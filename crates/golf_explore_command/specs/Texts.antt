-- The lines of the program that looks at every schedule (profile).
use Rattle.std.specs.Prelude.{ℕ, ◌+◌, ◌/◌, Bool, true, false, if◌then◌else◌, List, [], ◌++◌, length, Option, Some, None}
use Rattle.std.specs.Prelude.{nat_le, codes, decimal}
use Rattle.golf_explore.specs.declared.full_search.Visited.{Visited}
use Rattle.golf_command_words.specs.Values.{most_choices}
use Rattle.golf_explore_words.specs.declared.line.SearchFor.{SearchFor}
use Rattle.golf_run_schedules.specs.declared.options.RunOptions.{RunOptions}
use Rattle.golf_run_schedules.specs.declared.schedule.Schedule.{Schedule}
use Rattle.golf_run_schedules.specs.Options.{most_turns}
use Rattle.golf_run_texts.specs.Texts.{numbers_text}

-- the usage, for words that are no command line
abbrev pub usage_text : List ℕ
usage_text =
    codes
    "usage: golf-explore all [--states N] < FILE\n       golf-explore search [--preemptions K] [--states N] [--seconds S] [--for leak|panic|asleep] < FILE\n       golf-explore trace [--schedule S] [--turns N] [--every N] [--markers N] [--recover] [--why] < FILE\n       golf-explore trace --threads N < FILE\n       golf-explore --version\n"

-- the number of the release
abbrev pub version_text : List ℕ
version_text = codes "golf-explore 1.0.0\n"

-- how much memory this many states may take: about 5 kB for each state
abbrev pub note_line : ℕ → List ℕ
note_line most = codes "at most " ++ (decimal most ++ (codes " states, about " ++ (decimal (most / 200 + 1)
    ++ codes " MB of memory\n")))

-- ---- all schedules

-- whether some run panics
abbrev pub panics_text : Bool → List ℕ
panics_text true = codes "panics under some schedule\n"
panics_text false = codes "never panics\n"

-- whether some run ends with all goroutines asleep
abbrev pub sleeps_text : Bool → List ℕ
sleeps_text true = codes "all asleep under some schedule\n"
sleeps_text false = codes "never all asleep\n"

abbrev pub every_line : ℕ → List ℕ
every_line states = codes "every schedule: " ++ (decimal states ++ codes " states, no leak\n")

-- that each run ends; nothing is said if this was not found
abbrev pub ends_text : Bool → List ℕ
ends_text true = codes "always ends\n"
ends_text false = []

-- no run leaks, whether some run ends by a panic or with all asleep, and that each run ends
abbrev pub visited_text : Visited → List ℕ
visited_text told = ((every_line told.states ++ panics_text told.panics) ++ sleeps_text told.sleeps)
    ++ ends_text told.ends

-- ---- a run that was found

-- how the run is named
abbrev pub name_of : SearchFor → List ℕ
name_of SearchFor.Leak = codes "leak"
name_of SearchFor.Panic = codes "panic"
name_of SearchFor.Asleep = codes "asleep"

-- after how many turns the run collects: a leak is reported by a collection after its last turn
abbrev pub every_for : SearchFor → ℕ → Option ℕ
every_for SearchFor.Leak turns = Some turns
every_for SearchFor.Panic turns = None
every_for SearchFor.Asleep turns = None

-- The options of the run of these numbers, with the most turns that a run may have. If the line has words, `golf run` takes
-- the same turns by them: words have fewer numbers than it takes turns without `--turns`.
unfoldable pub shown_options : SearchFor → List ℕ → RunOptions
shown_options aim ns = record {
  schedule = Schedule.Choices ns;
  turns = most_turns;
  every = every_for aim (length ns);
  markers = 1;
  recover = false;
  why = false;
}

-- the words of the run, up to its numbers
abbrev pub words_before : SearchFor → ℕ → List ℕ
words_before SearchFor.Leak turns = codes ": --every " ++ (decimal turns ++ codes " --schedule choices:")
words_before SearchFor.Panic turns = codes ": --schedule choices:"
words_before SearchFor.Asleep turns = codes ": --schedule choices:"

-- in place of the words: there are more turns than words can have, or than a run can have
abbrev pub many_turns : ℕ → List ℕ
many_turns turns =
    if nat_le turns most_turns
    then codes ": after " ++ (decimal turns ++ codes " turns, more than a schedule of choices may have\n")
    else codes ": after " ++ (decimal turns ++ codes " turns, more than a run may have\n")

-- the line of the run
abbrev pub found_line : SearchFor → List ℕ → List ℕ
found_line aim ns =
    if nat_le (length ns) most_choices
    then ((name_of aim ++ words_before aim (length ns)) ++ numbers_text ns) ++ codes "\n"
    else name_of aim ++ many_turns (length ns)

-- nothing was found in these states
abbrev pub nothing_line : ℕ → ℕ → List ℕ
nothing_line states preemptions = codes "nothing found: " ++ (decimal states ++ (codes " states, at most "
    ++ (decimal preemptions ++ codes " preemptions\n")))

-- ---- no answer

abbrev pub too_many_line : ℕ → List ℕ
too_many_line most = codes "stopped: more than " ++ (decimal most ++ codes " states\n")

-- the time of a search is over
abbrev pub out_of_time_line : ℕ → List ℕ
out_of_time_line seconds = codes "stopped: after " ++ (decimal seconds ++ codes " seconds\n")

abbrev pub finalisers_text : List ℕ
finalisers_text = codes "stopped: the file sets finalisers\n"
