-- Worked examples: what the definition of a line says of these words.
use Rattle.std.proofs.Common.{◌≡◌, refl, List, [], ◌∷◌, Some, None, codes, true, false}
use Rattle.golf_run_schedules.specs.declared.options.RunOptions.{RunOptions}
use Rattle.golf_run_schedules.specs.declared.schedule.Schedule.{Schedule}
use Rattle.golf_command_words.specs.Values.{Text, numbers_of}
use Rattle.golf_command_words.specs.Words.{line_of, uses_after}
use Rattle.golf_command_words.specs.declared.line.CommandLine.{CommandLine}

-- a run without options
abbrev plain : RunOptions
plain = record {
  schedule = Schedule.Rotate;
  turns = 1000000;
  every = None;
  markers = 1;
  recover = false;
  why = false;
}

-- `run` with these words behind it
abbrev run : List Text → List Text
run words = codes "run" ∷ words

run_alone : line_of (run []) ≡ Some (CommandLine.Run plain)
unfolding uses_after
run_alone = refl

seed_and_markers : line_of (run (codes "--schedule=seed:0" ∷ codes "--markers" ∷ codes "002" ∷ codes "--recover"
    ∷ codes "--" ∷ [])) ≡ Some (CommandLine.Run
    (record plain { schedule = Schedule.Seed 0; markers = 2; recover = true }))
unfolding uses_after
seed_and_markers = refl

why_first : line_of (run (codes "--why" ∷ codes "--turns=9" ∷ codes "--recover" ∷ []))
    ≡ Some (CommandLine.Run (record plain { turns = 9; recover = true; why = true }))
unfolding uses_after
why_first = refl

why_twice : line_of (run (codes "--why" ∷ codes "--why" ∷ [])) ≡ None
unfolding uses_after
why_twice = refl

why_with_a_value : line_of (run (codes "--why=1" ∷ [])) ≡ None
unfolding uses_after
why_with_a_value = refl

threads_and_why : line_of (run (codes "--threads=2" ∷ codes "--why" ∷ [])) ≡ None
unfolding uses_after
threads_and_why = refl

recover_twice : line_of (run (codes "--recover" ∷ codes "--recover" ∷ [])) ≡ None
unfolding uses_after
recover_twice = refl

hyphens_as_value : line_of (run (codes "--turns" ∷ codes "--" ∷ [])) ≡ None
unfolding uses_after
hyphens_as_value = refl

twenty_digits : line_of (run (codes "--turns" ∷ codes "00000000000000000007" ∷ []))
    ≡ Some (CommandLine.Run (record plain { turns = 7 }))
unfolding uses_after
twenty_digits = refl

twenty_one_digits : line_of (run (codes "--turns" ∷ codes "000000000000000000007" ∷ [])) ≡ None
unfolding uses_after
twenty_one_digits = refl

two_threads : line_of (run (codes "--threads=002" ∷ codes "--" ∷ [])) ≡ Some (CommandLine.Threads 2)
unfolding uses_after
two_threads = refl

threads_and_markers : line_of (run (codes "--markers=2" ∷ codes "--threads" ∷ codes "2" ∷ [])) ≡ None
unfolding uses_after
threads_and_markers = refl

generate_five : line_of (codes "generate" ∷ codes "--" ∷ codes "5" ∷ []) ≡ Some (CommandLine.Generate 5)
generate_five = refl

-- a list of at most three numbers
three_numbers : numbers_of 3 (codes "0,007,1") ≡ Some (0 ∷ 7 ∷ 1 ∷ [])
unfolding numbers_of
three_numbers = refl

four_numbers : numbers_of 3 (codes "0,007,1,2") ≡ None
unfolding numbers_of
four_numbers = refl

no_number : numbers_of 3 (codes "0,") ≡ None
unfolding numbers_of
no_number = refl

meaning_alone : line_of (codes "meaning" ∷ []) ≡ Some CommandLine.Meaning
meaning_alone = refl

meaning_and_hyphens : line_of (codes "meaning" ∷ codes "--" ∷ []) ≡ Some CommandLine.Meaning
meaning_and_hyphens = refl

meaning_and_a_word : line_of (codes "meaning" ∷ codes "x" ∷ []) ≡ None
meaning_and_a_word = refl

meaning_hyphens_and_a_word : line_of (codes "meaning" ∷ codes "--" ∷ codes "x" ∷ []) ≡ None
meaning_hyphens_and_a_word = refl

meaning_twice_hyphens : line_of (codes "meaning" ∷ codes "--" ∷ codes "--" ∷ []) ≡ None
meaning_twice_hyphens = refl
