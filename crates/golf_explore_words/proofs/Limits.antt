-- The numbers of a search are within their limits.
-- For: `command_line`, src/command_lines.rt; `IsSearchWithin`, specs/Words.antt
-- By: cases of what each option has; no induction
use Rattle.std.proofs.Common.{ℕ, ◌≤◌, List, Option, Some, None, IfSome, option_and_then, option_map, codes, arith}
use Rattle.clap.specs.Walk.{Row, first_of}
use Rattle.golf_command_words.specs.Values.{Text, number_within}
use Rattle.golf_command_words.specs.Words.{setting}
use Rattle.golf_command_words.proofs.Limits.{Between, set-within}
use Rattle.golf_explore_words.specs.declared.line.ExploreLine.{ExploreLine}
use Rattle.golf_explore_words.specs.declared.line.Question.{Question}
use Rattle.golf_explore_words.specs.declared.line.SearchFor.{SearchFor}
use Rattle.golf_explore_words.specs.Words.{aim_of, default_preemptions, default_states, most_preemptions, most_seconds}
use Rattle.golf_explore_words.specs.Words.{most_states, search_by, seconds_or_none, states_by, IsSearchWithin}

by_parts : (aim : Option SearchFor) (preemptions states : Option ℕ) (seconds : Option (Option ℕ))
    → Between 0 most_preemptions preemptions → Between 1 most_states states
    → IfSome seconds (Between 1 most_seconds)
    → IfSome (option_and_then (λ aim. option_and_then (λ preemptions. option_and_then (λ states. option_map
    (λ seconds. ExploreLine.Ask (Question.Search
    (record { aim = aim; preemptions = preemptions; states = states; seconds = seconds }))) seconds) states)
    preemptions) aim) IsSearchWithin
by_parts None preemptions states seconds p s t = tt
by_parts (Some aim) None states seconds p s t = tt
by_parts (Some aim) (Some n) None seconds p s t = tt
by_parts (Some aim) (Some n) (Some k) None p s t = tt
by_parts (Some aim) (Some n) (Some k) (Some l) p s t =
    record { preemptions = p.1; some_states = s.0; few_states = s.1; seconds = t }

seconds-within : (value : Option Text) → IfSome (seconds_or_none value) (Between 1 most_seconds)
seconds-within None = tt
seconds-within (Some text) =
    go (number_within 1 most_seconds text) (set-within 1 most_seconds 1 (omega arith) (omega arith) (Some text))
  where
    go : (o : Option ℕ) → Between 1 most_seconds o → IfSome (option_map Some o) (Between 1 most_seconds)
    go None h = tt
    go (Some n) h = h

pub search_within : (rows : List Row) → IfSome (search_by rows) IsSearchWithin
search_within rows =
    by_parts (setting (first_of (codes "for") rows) SearchFor.Leak aim_of)
    (setting (first_of (codes "preemptions") rows) default_preemptions (number_within 0 most_preemptions))
    (states_by rows) (seconds_or_none (first_of (codes "seconds") rows))
    (set-within 0 most_preemptions default_preemptions (omega arith) (omega arith)
    (first_of (codes "preemptions") rows))
    (set-within 1 most_states default_states (omega arith) (omega arith) (first_of (codes "states") rows))
    (seconds-within (first_of (codes "seconds") rows))
