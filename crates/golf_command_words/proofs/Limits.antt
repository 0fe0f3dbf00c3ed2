-- The numbers of a line are within their limits.
-- For: `parse`, src/command_lines.rt; `IsWithin`, specs/Words.antt
-- By: cases of the line and of the tests of its bounds; no induction
use Rattle.std.proofs.Common.{◌≡◌, ◌&&◌, ℕ, ◌≤◌, Bool, true, false, if◌then◌else◌, List, [], ◌∷◌, Option, Some, None}
use Rattle.std.proofs.Common.{IfSome, Result, Ok, Err, IfOk, option_and_then, option_map, nat_le, bytes_eq, codes, refl}
use Rattle.std.proofs.Common.{sym, subst, arith}
use Rattle.std.proofs.lemmas.Bool.{and_parts}
use Rattle.std.proofs.lemmas.Bool.Decides.{nat_tests}
use Rattle.clap.specs.Walk.{Row, first_of}
use Rattle.golf_command_sample.specs.File.{most_parts}
use Rattle.golf_run_schedules.specs.Options.{most_turns}
use Rattle.golf_run_schedules.specs.declared.schedule.Schedule.{Schedule}
use Rattle.golf_command_words.specs.Values.{Text, most_choices, if_within, number_of, number_within, schedule_of}
use Rattle.golf_command_words.specs.Words.{Use, any_used, by_uses, default_turns, every_or_none, generate_of, is_used}
use Rattle.golf_command_words.specs.Words.{line_of, meaning_of, number_word, run_by_settings, run_by_threads}
use Rattle.golf_command_words.specs.Words.{run_by_values, run_of, setting, threads_by, uses_after, value_in, IsWithin}
use Rattle.golf_command_words.specs.ClapCommands.{by_rows, is_true, with_threads}
use Rattle.golf_command_words.specs.declared.line.CommandLine.{CommandLine}

true-le : (a b : ℕ) → nat_le a b ≡ true → a ≤ b
true-le a b h = grind (arith, nat_tests)

-- what is said of a number that is read
abbrev pub Between : ℕ → ℕ → Option ℕ → Type 0
Between least most o = IfSome o (λ n. (least ≤ n) × (n ≤ most))

module _ (least most : ℕ) where
  tested : (k : ℕ) (b : Bool) → (nat_le least k && nat_le k most) ≡ b → Between least most (if b then Some k else None)
  tested k true e = let p = and_parts (nat_le least k) (nat_le k most) e in (true-le least k p.0, true-le k most p.1)
  tested k false e = tt

  within : (m : Option ℕ) → Between least most (option_and_then (if_within least most) m)
  within None = tt
  within (Some k) = tested k (nat_le least k && nat_le k most) refl

  pub set-within : (default : ℕ) → least ≤ default → default ≤ most → (v : Option Text)
      → Between least most (setting v default (number_within least most))
  set-within default low high None = (low, high)
  set-within default low high (Some text) = within (number_of text)

run-within-limits : (recover why : Bool) (turns : Option ℕ) (every : Option (Option ℕ)) (markers : Option ℕ)
    (schedule : Option Schedule) → Between 1 most_turns turns → Between 1 16 markers
    → IfSome (run_by_settings turns every markers schedule recover why) IsWithin
run-within-limits recover why None every markers schedule t m = tt
run-within-limits recover why (Some n) None markers schedule t m = tt
run-within-limits recover why (Some n) (Some e) None schedule t m = tt
run-within-limits recover why (Some n) (Some e) (Some k) None t m = tt
run-within-limits recover why (Some n) (Some e) (Some k) (Some s) t m = record { turns = t.1; some = m.0; few = m.1 }

options-within : (us : List Use) → IfSome (by_uses (run_by_values most_choices) us) IsWithin
options-within us =
    let turns = value_in us (codes "turns") in
    let markers = value_in us (codes "markers") in
    run-within-limits (is_used us (codes "recover")) (is_used us (codes "why"))
    (setting turns default_turns (number_within 1 most_turns)) (every_or_none (value_in us (codes "every")))
    (setting markers 1 (number_within 1 16))
    (setting (value_in us (codes "schedule")) Schedule.Rotate (schedule_of most_choices))
    (set-within 1 most_turns default_turns (omega arith) (omega arith) turns)
    (set-within 1 16 1 (omega arith) (omega arith) markers)

threads-within : (others : Bool) (text : Text) → IfSome (threads_by others text) IsWithin
threads-within true text = tt
threads-within false text = go (number_within 1 16 text) (within 1 16 (number_of text))
  where
    go : (o : Option ℕ) → Between 1 16 o → IfSome (option_map (λ n. CommandLine.Threads n) o) IsWithin
    go None h = tt
    go (Some n) h = h

-- a run by the rows of its options
pub rows-within : (most : ℕ) (threads : Option Text) (rows : List Row)
    → IfSome (with_threads most threads rows) IsWithin
rows-within most None rows =
    let turns = first_of (codes "turns") rows in
    let markers = first_of (codes "markers") rows in
    run-within-limits (is_true (first_of (codes "recover") rows)) (is_true (first_of (codes "why") rows))
    (setting turns default_turns (number_within 1 most_turns)) (every_or_none (first_of (codes "every") rows))
    (setting markers 1 (number_within 1 16))
    (setting (first_of (codes "schedule") rows) Schedule.Rotate (schedule_of most))
    (set-within 1 most_turns default_turns (omega arith) (omega arith) turns)
    (set-within 1 16 1 (omega arith) (omega arith) markers)
rows-within most (Some text) rows = threads-within (by_rows any_used rows) text

-- a line that is one within its limits
pub line-is : {E : Type 0} (o : Option CommandLine) → IfSome o IsWithin → (r : Result (Option CommandLine) E)
    → IfOk r (λ line. line ≡ o) → IfOk r (λ line. IfSome line IsWithin)
line-is o within (Ok line) h = subst (λ x. IfSome x IsWithin) (sym h) within
line-is o within (Err e) h = tt

run-by-threads : (threads : Option Text) (us : List Use) → IfSome (run_by_threads threads us) IsWithin
run-by-threads None us = options-within us
run-by-threads (Some text) us = threads-within (by_uses any_used us) text

run-within : (o : Option (List Use)) → IfSome (option_and_then run_of o) IsWithin
run-within None = tt
run-within (Some us) = run-by-threads (value_in us (codes "threads")) us

number-within : (o : Option ℕ) → Between 1 most_parts o
    → IfSome (option_map (λ number. CommandLine.Generate number) o) IsWithin
number-within None h = tt
number-within (Some n) h = h

generate-within : (o : Option Text) → IfSome
    (option_and_then (λ n. option_map (λ number. CommandLine.Generate number) (number_within 1 most_parts n)) o)
    IsWithin
generate-within None = tt
generate-within (Some text) = number-within (number_within 1 most_parts text) (within 1 most_parts (number_of text))

meaning-within : (words : List Text) → IfSome (meaning_of words) IsWithin
meaning-within [] = tt
meaning-within (word ∷ []) = go (bytes_eq word (codes "--"))
  where
    go : (b : Bool) → IfSome (if b then Some CommandLine.Meaning else None) IsWithin
    go true = tt
    go false = tt
meaning-within (a ∷ b ∷ rest) = tt

by-name : (a b c : Bool) (x y z : Option CommandLine) → IfSome x IsWithin → IfSome y IsWithin → IfSome z IsWithin
    → IfSome (if a then x else (if b then y else (if c then z else None))) IsWithin
by-name true b c x y z h i j = h
by-name false true c x y z h i j = i
by-name false false true x y z h i j = j
by-name false false false x y z h i j = tt

-- every line
pub line-within : (words : List Text) → IfSome (line_of words) IsWithin
line-within [] = tt
line-within (word ∷ rest) =
    by-name (bytes_eq (codes "run") word) (bytes_eq (codes "generate") word) (bytes_eq (codes "meaning") word)
    (option_and_then run_of (uses_after [] None rest)) (generate_of rest) (meaning_of rest)
    (run-within (uses_after [] None rest)) (generate-within (number_word rest)) (meaning-within rest)

pub as_within : {E : Type 0} (words : List Text) (r : Result (Option CommandLine) E)
    → IfOk r (λ line. line ≡ line_of words) → IfOk r (λ line. IfSome line IsWithin)
as_within words r h = line-is (line_of words) (line-within words) r h
