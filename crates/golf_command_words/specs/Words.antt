-- The words after the program's name, and the command line that they stand for (profile).
use Rattle.std.specs.Prelude.{ℕ, ◌≤◌, ◌++◌, ◌&&◌, ◌||◌, ◌==◌, Bool, true, false, if◌then◌else◌, List, [], ◌∷◌, find}
use Rattle.std.specs.Prelude.{Option, Some, None, is_some, option_and_then, option_map, codes, bytes_eq}
use Rattle.std.specs.List.{list_any, before_first, after_first}
use Rattle.golf_command_words.specs.Values.{Text, number_within, most_choices, schedule_of}
use Rattle.golf_command_sample.specs.File.{most_parts}
use Rattle.golf_run_schedules.specs.declared.schedule.Schedule.{Schedule}
use Rattle.golf_run_schedules.specs.Options.{IsWithinLimits, most_turns}
use Rattle.golf_command_words.specs.declared.line.CommandLine.{CommandLine}

-- ---- options

-- an option that is used, and its value if it has one
abbrev pub Use : Type 0
Use = Text × Option Text

abbrev pub takes_value : Text → Bool
takes_value name =
    bytes_eq (codes "schedule") name || (bytes_eq (codes "turns") name
    || (bytes_eq (codes "every") name || (bytes_eq (codes "markers") name || bytes_eq (codes "threads") name)))

-- an option without a value
abbrev pub is_flag : Text → Bool
is_flag name = bytes_eq (codes "recover") name || bytes_eq (codes "why") name

abbrev pub is_used : List Use → Text → Bool
is_used us name = list_any (λ u. bytes_eq u.0 name) us

-- one more use; each option is used at most once
abbrev pub with_use : List Use → Text → Option Text → Option (List Use)
with_use us name value = if is_used us name then None else Some (us ++ (name, value) ∷ [])

-- a word that is longer than a hyphen (45) and begins with it is no value
abbrev pub begins_with_hyphen : Text → Bool
begins_with_hyphen (a ∷ b ∷ rest) = a == 45
begins_with_hyphen _ = false

abbrev pub second_is_hyphen : ℕ → ℕ → Text → Option Text
second_is_hyphen a b rest = if a == 45 && b == 45 then Some rest else None

-- `--name`, or `--name=value`
abbrev pub name_behind : Text → Option (Text × Option Text)
name_behind rest = Some (
  before_first (λ x. x == 61) rest,
  if list_any (λ x. x == 61) rest then Some (after_first (λ x. x == 61) rest) else None,
)

abbrev pub option_in : Text → Option (Text × Option Text)
option_in (a ∷ b ∷ rest) = option_and_then name_behind (second_is_hyphen a b rest)
option_in _ = None

abbrev pub is_last : List Text → Bool
is_last [] = true
is_last (word ∷ rest) = false

-- an option is read, with its value if that is in the same word, and then the words behind it
abbrev pub option_met : List Use → Text → Option Text → (List Use → Option Text → Option (List Use)) → Option (List Use)
option_met us name (Some value) next =
    if takes_value name then option_and_then (λ now. next now None) (with_use us name (Some value)) else None
option_met us name None next =
    if takes_value name then next us (Some name)
    else (if is_flag name then option_and_then (λ now. next now None) (with_use us name None) else None)

-- a word in a place for an option is read; one `--` may be the last word
abbrev pub word_met : List Use → Text → List Text → (List Use → Option Text → Option (List Use)) → Option (List Use)
word_met us word rest next =
    if bytes_eq word (codes "--") then (if is_last rest then Some us else None)
    else option_and_then (λ o. option_met us o.0 o.1 next) (option_in word)

-- the uses that the words name, after the earlier ones; the value of the option `waiting` is the next word
unfoldable pub uses_after : List Use → Option Text → List Text → Option (List Use)
uses_after us None [] = Some us
uses_after us (Some name) [] = None
uses_after us None (word ∷ rest) = word_met us word rest (λ now waiting. uses_after now waiting rest)
uses_after us (Some name) (word ∷ rest) =
    if begins_with_hyphen word then None
    else option_and_then (λ now. uses_after now None rest) (with_use us name (Some word))

-- ---- the settings of a run

abbrev pub value_in : List Use → Text → Option Text
value_in us name = option_and_then (λ u. u.1) (find (λ u. bytes_eq u.0 name) us)

-- the value of an option, as `read` reads it, or the default without the option
abbrev pub setting : {X : Type 0} → Option Text → X → (Text → Option X) → Option X
setting None default read = Some default
setting (Some text) default read = read text

-- how many turns a run has without `--turns`
abbrev pub default_turns : ℕ
default_turns = 1000000

abbrev pub every_or_none : Option Text → Option (Option ℕ)
every_or_none value = setting value None (λ text. option_map Some (number_within 1 most_turns text))

-- the run with these settings, if each of them was read
abbrev pub run_by_settings : Option ℕ → Option (Option ℕ) → Option ℕ → Option Schedule → Bool → Bool
    → Option CommandLine
run_by_settings turns_read every_read markers_read schedule_read recover why =
    option_and_then (λ turns.
    option_and_then (λ every.
    option_and_then (λ markers.
    option_map (λ schedule. CommandLine.Run
    (record {
      schedule = schedule;
      turns = turns;
      every = every;
      markers = markers;
      recover = recover;
      why = why;
    }))
    schedule_read) markers_read) every_read) turns_read

-- the run with these values of `--schedule`, `--turns`, `--every` and `--markers`, and at most so many written choices
abbrev pub run_by_values : ℕ → Option Text → Option Text → Option Text → Option Text → Bool → Bool
    → Option CommandLine
run_by_values most schedule turns every markers recover why = run_by_settings
    (setting turns default_turns (number_within 1 most_turns)) (every_or_none every)
    (setting markers 1 (number_within 1 16)) (setting schedule Schedule.Rotate (schedule_of most)) recover why

-- one of these options is used
abbrev pub any_used : Option Text → Option Text → Option Text → Option Text → Bool → Bool → Bool
any_used schedule turns every markers recover why = is_some schedule
    || (is_some turns || (is_some every || (is_some markers || (recover || why))))

-- what is made of the uses of the options except for `--threads`
abbrev pub by_uses : {X : Type 0} → (Option Text → Option Text → Option Text → Option Text → Bool → Bool → X)
    → List Use → X
by_uses make us = make (value_in us (codes "schedule")) (value_in us (codes "turns")) (value_in us (codes "every"))
    (value_in us (codes "markers")) (is_used us (codes "recover")) (is_used us (codes "why"))

-- ---- a run by threads

-- a run by threads, if no other option is used
abbrev pub threads_by : Bool → Text → Option CommandLine
threads_by true text = None
threads_by false text = option_map (λ n. CommandLine.Threads n) (number_within 1 16 text)

abbrev pub run_by_threads : Option Text → List Use → Option CommandLine
run_by_threads None us = by_uses (run_by_values most_choices) us
run_by_threads (Some text) us = threads_by (by_uses any_used us) text

abbrev pub run_of : List Use → Option CommandLine
run_of us = run_by_threads (value_in us (codes "threads")) us

-- ---- lines

-- the number, with at most one `--` right before or behind it
abbrev pub number_word : List Text → Option Text
number_word (a ∷ []) = Some a
number_word (a ∷ b ∷ []) = if bytes_eq a (codes "--") then Some b else
    (if bytes_eq b (codes "--") then Some a else None)
number_word _ = None

abbrev pub generate_of : List Text → Option CommandLine
generate_of words = option_and_then (λ n. option_map (λ number. CommandLine.Generate number)
    (number_within 1 most_parts n)) (number_word words)

-- no word, or one `--`
abbrev pub meaning_of : List Text → Option CommandLine
meaning_of [] = Some CommandLine.Meaning
meaning_of (a ∷ []) = if bytes_eq a (codes "--") then Some CommandLine.Meaning else None
meaning_of _ = None

-- the command line that the words stand for
abbrev pub line_of : List Text → Option CommandLine
line_of [] = None
line_of (word ∷ rest) =
    if bytes_eq (codes "run") word then option_and_then run_of (uses_after [] None rest)
    else (if bytes_eq (codes "generate") word then generate_of rest
    else (if bytes_eq (codes "meaning") word then meaning_of rest else None))

-- ---- limits

-- the numbers of a command line are within their limits
abbrev pub IsWithin : CommandLine → Type 0
IsWithin (CommandLine.Run options) = IsWithinLimits options
IsWithin (CommandLine.Generate n) = (1 ≤ n) × (n ≤ most_parts)
IsWithin (CommandLine.Threads n) = (1 ≤ n) × (n ≤ 16)
IsWithin CommandLine.Meaning = Unit {0}
