-- The program's commands as `clap` sees them, and the command line by the matches that it finds.
use Rattle.std.specs.Prelude.{ℕ, Bool, true, false, if◌then◌else◌, List, [], ◌∷◌, Option, Some, None}
use Rattle.std.specs.Prelude.{option_and_then, option_map, codes, bytes_eq}
use Rattle.clap.specs.Walk.{Row, Rule, first_of}
use Rattle.clap.specs.Kinds.{Kinds}
use Rattle.clap.specs.Simple.{App, new_app, new_rule, on_top, subcommand_of, with_rule, with_subcommand}
use Rattle.clap.specs.Faults.{fault_of}
use Rattle.clap.specs.declared.builder.ArgAction.TheVariants.{Set, SetTrue}
use Rattle.golf_command_words.specs.Values.{Text, number_within, most_choices}
use Rattle.golf_command_words.specs.Words.{any_used, run_by_values, threads_by}
use Rattle.golf_command_words.specs.declared.line.CommandLine.{CommandLine}
use Rattle.golf_command_sample.specs.File.{most_parts}

-- an option with a value, and an option without one
abbrev pub valued : Text → Rule
valued name = record (new_rule name) { long = Some name; action = Some Set }

abbrev pub flag : Text → Rule
flag name = record (new_rule name) { long = Some name; action = Some SetTrue }

abbrev pub positional : Text → Rule
positional name = record (new_rule name) { action = Some Set }

-- the command with the options of a run
abbrev pub with_run_options : App → App
with_run_options app =
    with_rule (with_rule (with_rule (with_rule (with_rule (with_rule (with_rule app
    (valued (codes "schedule"))) (valued (codes "turns"))) (valued (codes "every"))) (valued (codes "markers")))
    (valued (codes "threads"))) (flag (codes "recover"))) (flag (codes "why"))

abbrev pub run_app : App
run_app = with_run_options (new_app (codes "run"))

abbrev pub generate_app : App
generate_app = with_rule (new_app (codes "generate")) (positional (codes "number"))

abbrev pub meaning_app : App
meaning_app = new_app (codes "meaning")

abbrev pub nameless_app : App
nameless_app = on_top (λ s. record s { no_binary_name = true; disable_help_flag = true }) (new_app (codes "golf"))

abbrev pub program_app : App
program_app = on_top (λ s. record s { disable_help_subcommand = true; disable_version_flag = true }) nameless_app

abbrev pub golf_app : App
golf_app = with_subcommand (with_subcommand (with_subcommand program_app run_app.top) generate_app.top) meaning_app.top

abbrev pub unless_fault : {X : Type 0} → Kinds → Option X → Option X
unless_fault [] found = found
unless_fault (k ∷ ks) found = None

-- The subcommand of a program that the words name, with the values of its arguments. It is `None` exactly when `clap`
-- names a fault or the words name no subcommand.
abbrev pub matched : App → List Text → Option (Text × List Row)
matched app words = unless_fault (fault_of app words) (subcommand_of app words)

unfoldable pub split_of : List Text → Option (Text × List Row)
split_of words = matched golf_app words

-- ---- the command line, by these values

abbrev pub is_true : Option Text → Bool
is_true None = false
is_true (Some text) = bytes_eq text (codes "true")

-- what is made of the rows of the options except for `--threads`
abbrev pub by_rows : {X : Type 0} → (Option Text → Option Text → Option Text → Option Text → Bool → Bool → X)
    → List Row → X
by_rows make rows = make (first_of (codes "schedule") rows) (first_of (codes "turns") rows)
    (first_of (codes "every") rows) (first_of (codes "markers") rows) (is_true (first_of (codes "recover") rows))
    (is_true (first_of (codes "why") rows))

abbrev pub with_threads : ℕ → Option Text → List Row → Option CommandLine
with_threads most None rows = by_rows (run_by_values most) rows
with_threads most (Some text) rows = threads_by (by_rows any_used rows) text

-- a run, by threads or by its options, with at most so many written choices
abbrev pub run_by : ℕ → List Row → Option CommandLine
run_by most rows = with_threads most (first_of (codes "threads") rows) rows

abbrev pub generate_by : List Row → Option CommandLine
generate_by rows =
    option_and_then (λ text. option_map (λ n. CommandLine.Generate n) (number_within 1 most_parts text))
    (first_of (codes "number") rows)

abbrev pub line_by : Option (Text × List Row) → Option CommandLine
line_by None = None
line_by (Some p) =
    if bytes_eq p.0 (codes "run") then run_by most_choices p.1
    else (if bytes_eq p.0 (codes "generate") then generate_by p.1
    else (if bytes_eq p.0 (codes "meaning") then Some CommandLine.Meaning else None))
