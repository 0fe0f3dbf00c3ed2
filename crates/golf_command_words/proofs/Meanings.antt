-- A meaning line: nothing after its name, or one `--`.
-- For: `parse`, src/command_lines.rt; `meaning_of`, specs/Words.antt
-- By: cases of how many words there are and of what the first word is; no induction
use Rattle.std.proofs.Common.{◌≡◌, ◌∙◌, Bool, cond, true, false, refl, ap, List, [], ◌∷◌, Option, Some, None}
use Rattle.std.proofs.Common.{option_and_then, bytes_eq, IsUtf8}
use Rattle.std.specs.List.{AllByRecursion}
use Rattle.clap.specs.Lexer.{long_of, short_of}
use Rattle.clap.specs.Walk.{Row, idle, nothing_held, walk_from}
use Rattle.clap.specs.Simple.{Shape, built_leaf, inherited}
use Rattle.clap.specs.Faults.{defaults_fault}
use Rattle.golf_command_words.specs.Values.{Text}
use Rattle.golf_command_words.specs.Words.{meaning_of}
use Rattle.golf_command_words.specs.ClapCommands.{meaning_app, program_app}
use Rattle.golf_command_words.specs.declared.line.CommandLine.{CommandLine}
use Rattle.golf_command_words.proofs.Outcomes.{dashes_met, ended, long_is, outcome, outcome-nil, plain_is, short_is}
use Rattle.golf_command_words.proofs.Outcomes.{standing, trailed, trailed_is}

abbrev pub meaning_shape : Shape
meaning_shape = built_leaf (inherited program_app.top meaning_app.top)

abbrev pub meaning_by : List Row → Option CommandLine
meaning_by rows = Some CommandLine.Meaning

abbrev read : Option (List Row) → Option CommandLine
read rows = option_and_then meaning_by rows

abbrev from_start : List Text → Option (List Row)
from_start words = outcome meaning_shape (standing meaning_shape nothing_held idle 1) words

none_ends : ended meaning_shape nothing_held ≡ Some []
unfolding defaults_fault
none_ends = refl

-- a word that is not `--` is at fault
other_word : (word : Text) (rest : List Text) → IsUtf8 word → bytes_eq word (45 ∷ 45 ∷ []) ≡ false
    → from_start (word ∷ rest) ≡ None
other_word word rest utf8 e = go (long_of word) (short_of word) refl refl
  where
    go : (l : Option (Text × Option Text)) (s : Option Text) → long_of word ≡ l → short_of word ≡ s
        → from_start (word ∷ rest) ≡ None
    go (Some p) s is short = long_is meaning_shape nothing_held idle 1 word rest p.0 p.1 None e is refl
    go None (Some flags) is short = short_is meaning_shape nothing_held idle 1 word rest
        (record { utf8 = utf8; no_dashes = e; no_long = is; is = short }) refl (λ x. refl)
    go None None is short = plain_is meaning_shape nothing_held idle 1 word rest e is short

dashes_then : (word : Text) (rest : List Text) → bytes_eq word (45 ∷ 45 ∷ []) ≡ true
    → from_start (word ∷ rest) ≡ outcome meaning_shape (trailed meaning_shape nothing_held idle 1) rest
dashes_then word rest e = dashes_met meaning_shape nothing_held idle 1 word rest e

-- nothing may come after `--`
stray : (word : Text) (rest : List Text)
    → outcome meaning_shape (trailed meaning_shape nothing_held idle 1) (word ∷ rest) ≡ None
stray word rest = trailed_is meaning_shape nothing_held idle 1 word rest

one_word : (word : Text) (b : Bool) → IsUtf8 word → bytes_eq word (45 ∷ 45 ∷ []) ≡ b
    → read (from_start (word ∷ [])) ≡ cond b (Some CommandLine.Meaning) None
one_word word true utf8 e = ap read (dashes_then word [] e
    ∙ outcome-nil meaning_shape (trailed meaning_shape nothing_held idle 1) ∙ none_ends)
one_word word false utf8 e = ap read (other_word word [] utf8 e)

more_words : (a b : Text) (rest : List Text) (t : Bool) → IsUtf8 a → bytes_eq a (45 ∷ 45 ∷ []) ≡ t
    → from_start (a ∷ b ∷ rest) ≡ None
more_words a b rest true utf8 e = dashes_then a (b ∷ rest) e ∙ stray b rest
more_words a b rest false utf8 e = other_word a (b ∷ rest) utf8 e

-- the words after `meaning` give the line that the grammar gives
pub meaning_line_is : (words : List Text) → AllByRecursion IsUtf8 words
    → option_and_then meaning_by (outcome meaning_shape (walk_from nothing_held) words) ≡ meaning_of words
meaning_line_is [] utf8 = ap read (outcome-nil meaning_shape (walk_from nothing_held) ∙ none_ends)
meaning_line_is (a ∷ []) utf8 = one_word a (bytes_eq a (45 ∷ 45 ∷ [])) utf8.0 refl
meaning_line_is (a ∷ b ∷ rest) utf8 = ap read (more_words a b rest (bytes_eq a (45 ∷ 45 ∷ [])) utf8.0 refl)
