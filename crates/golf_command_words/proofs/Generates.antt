-- A generate line: one number, with one `--` right before or after it.
-- For: `parse`, src/command_lines.rt; `generate_of`, specs/Words.antt
-- By: cases of how many words there are and of what each word is; no induction
use Rattle.std.proofs.Common.{◌≡◌, ◌∙◌, ◌&&◌, ℕ, Bool, cond, true, false, refl, sym, ap, List, [], ◌∷◌, length, Option}
use Rattle.std.proofs.Common.{Some, None, option_map, option_and_then, bytes_eq, codes, nat_le, IsUtf8, eqb-true}
use Rattle.std.proofs.Common.{true≢false}
use Rattle.std.specs.List.{AllByRecursion}
use Rattle.clap.specs.Lexer.{long_of, short_of}
use Rattle.clap.specs.Walk.{Held, Row, idle, nothing_held, walk_from}
use Rattle.clap.specs.Simple.{Shape, built_leaf, inherited}
use Rattle.clap.specs.Faults.{defaults_fault}
use Rattle.clap.specs.declared.parser.matches.ValueSource.TheVariants as value_source
use Rattle.clap.specs.declared.builder.value_parser.Reading.TheVariants.{AsWritten}
use Rattle.golf_command_sample.specs.File.{most_parts}
use Rattle.golf_command_words.specs.Values.{Text, if_within, number_within}
use Rattle.golf_command_words.specs.Words.{begins_with_hyphen, generate_of}
use Rattle.golf_command_words.specs.ClapCommands.{generate_app, generate_by, program_app}
use Rattle.golf_command_words.specs.declared.line.CommandLine.{CommandLine}
use Rattle.golf_command_words.proofs.Outcomes.{dashes_met, ended, long_is, outcome, outcome-nil, plain_is, short_is}
use Rattle.golf_command_words.proofs.Outcomes.{standing, trailed, trailed_is}
use Rattle.golf_command_words.proofs.Runs.{dashes_hyphen, long_hyphen, short_hyphen}

abbrev pub generate_shape : Shape
generate_shape = built_leaf (inherited program_app.top generate_app.top)

-- a word that waits to be the number
abbrev number_held : Text → Held
number_held text = record { rows = []; pending = Some (codes "number", text ∷ []); skip = 0 }

abbrev number_row : Text → Row
number_row text = record {
  id = codes "number";
  values = text ∷ [];
  count = None;
  source = Some value_source.CommandLine;
  reading = AsWritten;
}

abbrev read : Option (List Row) → Option CommandLine
read rows = option_and_then generate_by rows

abbrev number_line : Text → Option CommandLine
number_line text = option_map (λ n. CommandLine.Generate n) (number_within 1 most_parts text)

abbrev from_start : List Text → Option (List Row)
from_start words = outcome generate_shape (standing generate_shape nothing_held idle 1) words

abbrev from_number : Text → List Text → Option (List Row)
from_number text words = outcome generate_shape (standing generate_shape (number_held text) idle 2) words

none_ends : ended generate_shape nothing_held ≡ Some []
unfolding defaults_fault
none_ends = refl

number_ends : (text : Text) → ended generate_shape (number_held text) ≡ Some (number_row text ∷ [])
unfolding defaults_fault
number_ends text = refl

-- ---- words

-- no number begins with a hyphen
no_number : (text : Text) → begins_with_hyphen text ≡ true → number_line text ≡ None
no_number [] e = absurd (true≢false (sym e))
no_number (a ∷ []) e = absurd (true≢false (sym e))
no_number (a ∷ b ∷ rest) e = ap (λ x. number_line (x ∷ b ∷ rest)) (eqb-true a 45 e)
    ∙ go (nat_le 1 (length (45 ∷ b ∷ rest)) && nat_le (length (45 ∷ b ∷ rest)) 20)
  where
    go : (t : Bool) → option_map (λ n. CommandLine.Generate n)
        (option_and_then (if_within 1 most_parts) (cond t None None)) ≡ None
    go true = refl
    go false = refl

data Kind (word : Text) : Type 0 where
  dashes : bytes_eq word (45 ∷ 45 ∷ []) ≡ true → Kind word
  hyphen : bytes_eq word (45 ∷ 45 ∷ []) ≡ false → begins_with_hyphen word ≡ true
      → ((h : Held) (position : ℕ) (rest : List Text) → h.skip ≡ 0
      → outcome generate_shape (standing generate_shape h idle position) (word ∷ rest) ≡ None) → Kind word
  plain : bytes_eq word (45 ∷ 45 ∷ []) ≡ false → long_of word ≡ None → short_of word ≡ None → Kind word

kind_of : (word : Text) → IsUtf8 word → Kind word
kind_of word utf8 = go (bytes_eq word (45 ∷ 45 ∷ [])) (long_of word) (short_of word) refl refl refl
  where
    go : (b : Bool) (l : Option (Text × Option Text)) (s : Option Text) → bytes_eq word (45 ∷ 45 ∷ []) ≡ b
        → long_of word ≡ l → short_of word ≡ s → Kind word
    go true l s e is short = dashes e
    go false (Some p) s e is short =
        hyphen e (long_hyphen word p is) (λ h position rest whole. long_is generate_shape h idle position word rest p.0
        p.1 None e is refl)
    go false None (Some flags) e is short =
        hyphen e (short_hyphen word flags short)
        (λ h position rest whole. short_is generate_shape h idle position word rest
        (record { utf8 = utf8; no_dashes = e; no_long = is; is = short }) whole (λ x. refl))
    go false None None e is short = plain e is short

-- the number is there, and nothing more may come
stray : (text word : Text) (rest : List Text)
    → outcome generate_shape (trailed generate_shape (number_held text) idle 2) (word ∷ rest) ≡ None
stray text word rest = trailed_is generate_shape (number_held text) idle 2 word rest

number_behind : (word : Text) (rest : List Text)
    → outcome generate_shape (trailed generate_shape nothing_held idle 1) (word ∷ rest)
    ≡ outcome generate_shape (trailed generate_shape (number_held word) idle 2) rest
number_behind word rest = trailed_is generate_shape nothing_held idle 1 word rest

number_first : (word : Text) (rest : List Text) → bytes_eq word (45 ∷ 45 ∷ []) ≡ false → long_of word ≡ None
    → short_of word ≡ None → from_start (word ∷ rest) ≡ from_number word rest
number_first word rest e none short = plain_is generate_shape nothing_held idle 1 word rest e none short

number_twice : (text word : Text) (rest : List Text) → bytes_eq word (45 ∷ 45 ∷ []) ≡ false → long_of word ≡ None
    → short_of word ≡ None → from_number text (word ∷ rest) ≡ None
number_twice text word rest e none short = plain_is generate_shape (number_held text) idle 2 word rest e none short

dashes_then : (word : Text) (rest : List Text) → bytes_eq word (45 ∷ 45 ∷ []) ≡ true
    → from_start (word ∷ rest) ≡ outcome generate_shape (trailed generate_shape nothing_held idle 1) rest
dashes_then word rest e = dashes_met generate_shape nothing_held idle 1 word rest e

then_dashes : (text word : Text) (rest : List Text) → bytes_eq word (45 ∷ 45 ∷ []) ≡ true
    → from_number text (word ∷ rest) ≡ outcome generate_shape (trailed generate_shape (number_held text) idle 2) rest
then_dashes text word rest e = dashes_met generate_shape (number_held text) idle 2 word rest e

-- ---- lines

one_word : (a : Text) → Kind a → read (from_start (a ∷ [])) ≡ number_line a
one_word a (dashes e) =
    ap read (dashes_then a [] e ∙ outcome-nil generate_shape (trailed generate_shape nothing_held idle 1) ∙ none_ends)
    ∙ sym (no_number a (dashes_hyphen a e))
one_word a (hyphen e begins none) = ap read (none nothing_held 1 [] refl) ∙ sym (no_number a begins)
one_word a (plain e none short) =
    ap read (number_first a [] e none short
    ∙ outcome-nil generate_shape (standing generate_shape (number_held a) idle 2) ∙ number_ends a)

second_word : (a b : Text) → Kind b → read (from_number a (b ∷ [])) ≡ option_and_then number_line
    (cond (bytes_eq b (45 ∷ 45 ∷ [])) (Some a) None)
second_word a b (dashes e) =
    ap read (then_dashes a b [] e ∙ outcome-nil generate_shape (trailed generate_shape (number_held a) idle 2)
    ∙ number_ends a)
    ∙ sym (ap (λ t. option_and_then number_line (cond t (Some a) None)) e)
second_word a b (hyphen e begins none) = ap read (none (number_held a) 2 [] refl)
    ∙ sym (ap (λ t. option_and_then number_line (cond t (Some a) None)) e)
second_word a b (plain e none short) = ap read (number_twice a b [] e none short)
    ∙ sym (ap (λ t. option_and_then number_line (cond t (Some a) None)) e)

two_words : (a b : Text) → Kind a → Kind b → read (from_start (a ∷ b ∷ []))
    ≡ option_and_then number_line (cond (bytes_eq a (45 ∷ 45 ∷ [])) (Some b)
    (cond (bytes_eq b (45 ∷ 45 ∷ [])) (Some a) None))
two_words a b (dashes e) k =
    ap read (dashes_then a (b ∷ []) e ∙ number_behind b []
    ∙ outcome-nil generate_shape (trailed generate_shape (number_held b) idle 2) ∙ number_ends b)
    ∙ sym (ap (λ t. option_and_then number_line (cond t (Some b) (cond (bytes_eq b (45 ∷ 45 ∷ [])) (Some a) None))) e)
two_words a b (hyphen e begins none) k =
    ap read (none nothing_held 1 (b ∷ []) refl) ∙ sym (go (bytes_eq b (45 ∷ 45 ∷ [])))
    ∙ sym (ap (λ t. option_and_then number_line (cond t (Some b) (cond (bytes_eq b (45 ∷ 45 ∷ [])) (Some a) None)))
    e)
  where
    go : (t : Bool) → option_and_then number_line (cond t (Some a) None) ≡ None
    go true = no_number a begins
    go false = refl
two_words a b (plain e none short) k =
    ap read (number_first a (b ∷ []) e none short) ∙ second_word a b k
    ∙ sym (ap (λ t. option_and_then number_line (cond t (Some b) (cond (bytes_eq b (45 ∷ 45 ∷ [])) (Some a) None))) e)

second_of_more : (a b c : Text) (rest : List Text) → Kind b → from_number a (b ∷ c ∷ rest) ≡ None
second_of_more a b c rest (dashes e) = then_dashes a b (c ∷ rest) e ∙ stray a c rest
second_of_more a b c rest (hyphen e begins none) = none (number_held a) 2 (c ∷ rest) refl
second_of_more a b c rest (plain e none short) = number_twice a b (c ∷ rest) e none short

more_words : (a b c : Text) (rest : List Text) → Kind a → Kind b → from_start (a ∷ b ∷ c ∷ rest) ≡ None
more_words a b c rest (dashes e) k = dashes_then a (b ∷ c ∷ rest) e ∙ number_behind b (c ∷ rest) ∙ stray b c rest
more_words a b c rest (hyphen e begins none) k = none nothing_held 1 (b ∷ c ∷ rest) refl
more_words a b c rest (plain e none short) k = number_first a (b ∷ c ∷ rest) e none short ∙ second_of_more a b c rest k

-- the words after `generate` give the line that the grammar gives
pub generate_line_is : (words : List Text) → AllByRecursion IsUtf8 words
    → option_and_then generate_by (outcome generate_shape (walk_from nothing_held) words) ≡ generate_of words
generate_line_is [] utf8 = ap read (outcome-nil generate_shape (walk_from nothing_held) ∙ none_ends)
generate_line_is (a ∷ []) utf8 = one_word a (kind_of a utf8.0)
generate_line_is (a ∷ b ∷ []) utf8 = two_words a b (kind_of a utf8.0) (kind_of b utf8.1.0)
generate_line_is (a ∷ b ∷ c ∷ rest) utf8 = ap read (more_words a b c rest (kind_of a utf8.0) (kind_of b utf8.1.0))
