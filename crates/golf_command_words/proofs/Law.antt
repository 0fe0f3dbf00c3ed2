-- The line that the words stand for is what `clap` finds in them.
-- For: `parse`, src/command_lines.rt; `line_of`, specs/Words.antt; `split_of`, specs/ClapCommands.antt
-- By: cases of the first word; induction over the list of words after it
use Rattle.std.proofs.Common.{◌≡◌, ◌∙◌, ◌++◌, Bool, cond, true, false, refl, sym, ap, ap₂, subst, List, [], ◌∷◌, map}
use Rattle.std.proofs.Common.{Option, Some, None, Result, Ok, Err, IfOk, option_and_then, is_some, bytes_eq, codes}
use Rattle.std.proofs.Common.{IsUtf8, String, string_bytes}
use Rattle.std.specs.List.{AllByRecursion}
use Rattle.std.specs.Option.{option_map_or}
use Rattle.std.proofs.lemmas.Str.{IsUtf8-string_bytes}
use Rattle.clap.specs.Lexer.{long_of, short_of}
use Rattle.clap.specs.Kinds.{Kinds, or_else}
use Rattle.clap.specs.Walk.{Held, Names, Row, Step, Walk, after_step, idle, finished, long_or_other, nothing_held}
use Rattle.clap.specs.Walk.{settled, short_or_plain, subcommand_met, subcommand_or_other, trailing, walk, walk_from}
use Rattle.clap.specs.Walk.{walked}
use Rattle.clap.specs.Simple.{App, Shape, built, entered, names_of}
use Rattle.clap.specs.Faults.{bundle_fault, check_fault, defaults_fault, entered_fault, flag_word_fault, level_fault}
use Rattle.clap.specs.Faults.{other_fault, settle_fault, step_fault, turn_fault, walk_fault}
use Rattle.clap.proofs.WalkLemmas.{walk_stopped}
use Rattle.golf_command_words.specs.Values.{Text, most_choices}
use Rattle.golf_command_words.specs.Words.{generate_of, line_of, meaning_of, run_of, uses_after}
use Rattle.golf_command_words.specs.ClapCommands.{generate_by, golf_app, line_by, run_by, split_of, unless_fault}
use Rattle.golf_command_words.specs.declared.line.CommandLine.{CommandLine}
use Rattle.golf_command_words.proofs.Outcomes.{bundle_fails, fails, level_is, outcome, short_text, unless_fails}
use Rattle.golf_command_words.proofs.Outcomes.{unless_none}
use Rattle.golf_command_words.proofs.Runs.{run_shape, same_text}
use Rattle.golf_command_words.proofs.RunLines.{run_line_is, settle_first}
use Rattle.golf_command_words.proofs.Generates.{generate_line_is, generate_shape}
use Rattle.golf_command_words.proofs.Meanings.{meaning_by, meaning_line_is, meaning_shape}

abbrev app : App
app = built golf_app

abbrev top : Shape
top = app.top

abbrev names : Names
names = names_of app

-- what is found, and what is at fault, where the walk over the program's words ends at f
abbrev found_at : Kinds → Walk → Option (Text × List Row)
found_at walk_kinds f =
    unless_fault (or_else walk_kinds
    (or_else (entered_fault app f.stopped) (or_else (settle_fault top.rules top.args_override_self f.held)
    (or_else (defaults_fault (settled top.rules f.held).rows top.rules)
    (check_fault top (finished top.rules f.held) (is_some (entered app f.stopped)))))))
    (entered app f.stopped)

split_is : (words : List Text) → split_of words ≡ found_at (walk_fault top names (walk_from nothing_held) words)
    (walk top.rules names nothing_held words)
unfolding split_of
split_is words = refl

-- ---- a subcommand

abbrev stopped_at : Text → List Text → Walk
stopped_at name seen = record {
  held = nothing_held;
  waiting = idle;
  position = 1;
  is_trailing = false;
  stopped = Some (name, seen);
}

left_to_it : (name : Text) (seen words : List Text) → walk_fault top names (stopped_at name seen) words ≡ []
unfolding walk_fault walked
left_to_it name seen [] = refl
left_to_it name seen (word ∷ rest) = left_to_it name (seen ++ word ∷ []) rest

abbrev rows_of_leaf : Shape → List Text → List Row
rows_of_leaf s words = finished s.rules (walk s.rules [] nothing_held words).held

-- the line by the rows of a subcommand, if nothing in its words is at fault
line_found : (name : Text) (read : List Row → Option CommandLine) (kinds : Kinds) (rows : List Row)
    → line_by (Some (name, rows)) ≡ read rows
    → line_by (unless_fault (or_else kinds []) (Some (name, rows))) ≡ option_and_then read
    (unless_fault kinds (Some rows))
line_found name read [] rows is = is
line_found name read (k ∷ ks) rows is = refl

-- the word is the name of a subcommand of this shape
record IsLeaf (name : Text) (shape : Shape) : Type 0 where
  at : (rest : List Text) → walk_fault top names (walk_from nothing_held) (name ∷ rest) ≡ []
  stops : (rest : List Text) → stopped_at name rest ≡ walk top.rules names nothing_held (name ∷ rest)
  entered : (rest : List Text) → found_at [] (stopped_at name rest)
      ≡ unless_fault (or_else (level_fault shape [] nothing_held rest false []) [])
      (Some (name, rows_of_leaf shape rest))

run_leaf : IsLeaf (codes "run") run_shape
unfolding walk_fault walked defaults_fault
run_leaf = record {
  at = left_to_it (codes "run") [];
  stops = walk_stopped top.rules names (walk_from nothing_held) (codes "run") [];
  entered = λ rest. refl;
}

generate_leaf : IsLeaf (codes "generate") generate_shape
unfolding walk_fault walked defaults_fault
generate_leaf = record {
  at = left_to_it (codes "generate") [];
  stops = walk_stopped top.rules names (walk_from nothing_held) (codes "generate") [];
  entered = λ rest. refl;
}

meaning_leaf : IsLeaf (codes "meaning") meaning_shape
unfolding walk_fault walked defaults_fault
meaning_leaf = record {
  at = left_to_it (codes "meaning") [];
  stops = walk_stopped top.rules names (walk_from nothing_held) (codes "meaning") [];
  entered = λ rest. refl;
}

-- a line whose first word is the name of this subcommand
leaf_law : {name : Text} {shape : Shape} → IsLeaf name shape → (read : List Row → Option CommandLine) (rest : List Text)
    → line_by (Some (name, rows_of_leaf shape rest)) ≡ read (rows_of_leaf shape rest)
    → option_and_then read (outcome shape (walk_from nothing_held) rest) ≡ line_of (name ∷ rest)
    → line_of (name ∷ rest) ≡ line_by (split_of (name ∷ rest))
leaf_law {name} {shape} leaf read rest by line =
    let kinds = level_fault shape [] nothing_held rest false [] in
    sym (ap line_by (split_is (name ∷ rest)
    ∙ ap₂ (λ (k : Kinds) (f : Walk). found_at k f) (leaf.at rest) (sym (leaf.stops rest)) ∙ leaf.entered rest)
    ∙ line_found name read kinds (rows_of_leaf shape rest) by
    ∙ ap (option_and_then read) (level_is shape rest) ∙ line)

-- ---- any other first word

-- a first word that is no subcommand
abbrev turn_at : Kinds → Held × Step → Kinds
turn_at kinds met = or_else kinds (step_fault top 1 met.0 met.1)

first_turn : (word : Text) (b : Bool) (l : Option (Text × Option Text)) (s : Option Text)
    → subcommand_met names idle word ≡ None → bytes_eq word (45 ∷ 45 ∷ []) ≡ b → long_of word ≡ l
    → turn_fault top names (walk_from nothing_held) word
    ≡ turn_at (cond b [] (flag_word_fault top.rules false l word nothing_held))
    (cond b (nothing_held, trailing 1) (long_or_other top.rules idle word l nothing_held))
first_turn word b l s none e is =
    ap (λ o. turn_at (other_fault top o word nothing_held) (subcommand_or_other top.rules o idle 1 word nothing_held))
    none
    ∙ ap (λ t. turn_at (cond t [] (flag_word_fault top.rules false (long_of word) word nothing_held))
    (cond t (nothing_held, trailing 1) (long_or_other top.rules idle word (long_of word) nothing_held))) e
    ∙ ap (λ o. turn_at (cond b [] (flag_word_fault top.rules false o word nothing_held))
    (cond b (nothing_held, trailing 1) (long_or_other top.rules idle word o nothing_held))) is

-- it is at fault, unless it is `--`
turn_fails : (word : Text) → IsUtf8 word → subcommand_met names idle word ≡ None → bytes_eq word (45 ∷ 45 ∷ []) ≡ false
    → fails (turn_fault top names (walk_from nothing_held) word) ≡ true
turn_fails word utf8 none e = go (long_of word) (short_of word) refl refl
  where
    go : (l : Option (Text × Option Text)) (s : Option Text) → long_of word ≡ l → short_of word ≡ s
        → fails (turn_fault top names (walk_from nothing_held) word) ≡ true
    go (Some p) s is short = ap fails (first_turn word false (Some p) s none e is)
    go None (Some flags) is short =
        ap fails (first_turn word false None (Some flags) none e is
        ∙ ap (λ o. turn_at (option_map_or (λ t. bundle_fault top.rules false t nothing_held) o [])
        (short_or_plain top.rules idle word o nothing_held)) short)
        ∙ settle_first (bundle_fault top.rules false flags nothing_held) _
        (bundle_fails top.rules false flags nothing_held (short_text word flags short utf8) refl (λ x. refl))
    go None None is short =
        ap fails (first_turn word false None None none e is
        ∙ ap (λ o. turn_at (option_map_or (λ t. bundle_fault top.rules false t nothing_held) o [])
        (short_or_plain top.rules idle word o nothing_held)) short)

fault_first : (word : Text) (rest : List Text) → fails (turn_fault top names (walk_from nothing_held) word) ≡ true
    → fails (walk_fault top names (walk_from nothing_held) (word ∷ rest)) ≡ true
unfolding walk_fault
fault_first word rest e = settle_first (turn_fault top names (walk_from nothing_held) word)
    (walk_fault top names (walked top.rules names (walk_from nothing_held) word) rest) e

none_found : (words : List Text) → fails (walk_fault top names (walk_from nothing_held) words) ≡ true
    → split_of words ≡ None
none_found words e =
    split_is words
    ∙ unless_fails (or_else (walk_fault top names (walk_from nothing_held) words) _) _
    (settle_first (walk_fault top names (walk_from nothing_held) words) _ e)

abbrev trailed : Walk
trailed = record { held = nothing_held; waiting = idle; position = 1; is_trailing = true; stopped = None }

dashes_first : (word : Text) → subcommand_met names idle word ≡ None → bytes_eq word (45 ∷ 45 ∷ []) ≡ true
    → walked top.rules names (walk_from nothing_held) word ≡ trailed
unfolding walked
dashes_first word none e =
    ap (λ (o : Option Text). after_step top.rules word (walk_from nothing_held)
    (subcommand_or_other top.rules o idle 1 word nothing_held).0
    (subcommand_or_other top.rules o idle 1 word nothing_held).1) none
    ∙ ap (λ (b : Bool). after_step top.rules word (walk_from nothing_held)
    (cond b (nothing_held, trailing 1) (long_or_other top.rules idle word (long_of word) nothing_held)).0
    (cond b (nothing_held, trailing 1) (long_or_other top.rules idle word (long_of word) nothing_held)).1) e

second_fails : (word : Text) (rest : List Text) → fails (walk_fault top names trailed (word ∷ rest)) ≡ true
unfolding walk_fault
second_fails word rest = refl

or_fails : (a b : Kinds) → fails b ≡ true → fails (or_else a b) ≡ true
or_fails [] b e = e
or_fails (k ∷ ks) b e = refl

dashes_fault : (word x : Text) (xs : List Text) → subcommand_met names idle word ≡ None
    → bytes_eq word (45 ∷ 45 ∷ []) ≡ true
    → fails (walk_fault top names (walk_from nothing_held) (word ∷ x ∷ xs)) ≡ true
unfolding walk_fault
dashes_fault word x xs none e =
    or_fails (turn_fault top names (walk_from nothing_held) word)
    (walk_fault top names (walked top.rules names (walk_from nothing_held) word) (x ∷ xs))
    (ap (λ w. fails (walk_fault top names w (x ∷ xs))) (dashes_first word none e) ∙ second_fails x xs)

dashes_alone : (word : Text) → subcommand_met names idle word ≡ None → bytes_eq word (45 ∷ 45 ∷ []) ≡ true
    → split_of (word ∷ []) ≡ None
dashes_alone word none e =
    split_is (word ∷ [])
    ∙ ap (λ w. found_at (walk_fault top names (walk_from nothing_held) (word ∷ [])) w) (dashes_first word none e)
    ∙ unless_none (or_else (walk_fault top names (walk_from nothing_held) (word ∷ [])) _)

other_found : (word : Text) (rest : List Text) → IsUtf8 word → subcommand_met names idle word ≡ None
    → split_of (word ∷ rest) ≡ None
other_found word rest utf8 none = go (bytes_eq word (45 ∷ 45 ∷ [])) rest refl
  where
    go : (b : Bool) (more : List Text) → bytes_eq word (45 ∷ 45 ∷ []) ≡ b → split_of (word ∷ more) ≡ None
    go false more e = none_found (word ∷ more) (fault_first word more (turn_fails word utf8 none e))
    go true [] e = dashes_alone word none e
    go true (x ∷ xs) e = none_found (word ∷ x ∷ xs) (dashes_fault word x xs none e)

no_subcommand : (word : Text) → bytes_eq (codes "run") word ≡ false → bytes_eq (codes "generate") word ≡ false
    → bytes_eq (codes "meaning") word ≡ false → subcommand_met names idle word ≡ None
no_subcommand word run generate meaning = rw (run, generate, meaning) refl

no_line : (word : Text) (rest : List Text) → bytes_eq (codes "run") word ≡ false
    → bytes_eq (codes "generate") word ≡ false → bytes_eq (codes "meaning") word ≡ false → line_of (word ∷ rest) ≡ None
no_line word rest run generate meaning =
    ap₂ (λ (r g : Bool). cond r (option_and_then run_of (uses_after [] None rest))
    (cond g (generate_of rest) (cond (bytes_eq (codes "meaning") word) (meaning_of rest) None))) run generate
    ∙ ap (λ (m : Bool). cond m (meaning_of rest) None) meaning

-- ---- the law

nothing_found : None ≡ line_by (split_of [])
nothing_found = sym (ap line_by (split_is []
    ∙ unless_none (or_else (walk_fault top names (walk_from nothing_held) []) _)))

pub line_law : (words : List Text) → AllByRecursion IsUtf8 words → line_of words ≡ line_by (split_of words)
line_law [] utf8 = nothing_found
line_law (word ∷ rest) utf8 = go (bytes_eq (codes "run") word) (bytes_eq (codes "generate") word)
    (bytes_eq (codes "meaning") word) refl refl refl
  where
    go : (r g m : Bool) → bytes_eq (codes "run") word ≡ r → bytes_eq (codes "generate") word ≡ g
        → bytes_eq (codes "meaning") word ≡ m → line_of (word ∷ rest) ≡ line_by (split_of (word ∷ rest))
    go true g m run generate meaning = subst (λ w. line_of (w ∷ rest) ≡ line_by (split_of (w ∷ rest)))
        (same_text (codes "run") word run) (leaf_law run_leaf (run_by most_choices) rest refl (run_line_is rest utf8.1))
    go false true m run generate meaning =
        subst (λ w. line_of (w ∷ rest) ≡ line_by (split_of (w ∷ rest))) (same_text (codes "generate") word generate)
        (leaf_law generate_leaf generate_by rest refl (generate_line_is rest utf8.1))
    go false false true run generate meaning =
        subst (λ w. line_of (w ∷ rest) ≡ line_by (split_of (w ∷ rest))) (same_text (codes "meaning") word meaning)
        (leaf_law meaning_leaf meaning_by rest refl (meaning_line_is rest utf8.1))
    go false false false run generate meaning = no_line word rest run generate meaning
        ∙ sym (ap line_by (other_found word rest utf8.0 (no_subcommand word run generate meaning)))

-- the words of a program are UTF-8
pub words_are_utf8 : {Z : Type 0} (words : List (String Z)) → AllByRecursion IsUtf8 (map string_bytes words)
words_are_utf8 [] = tt
words_are_utf8 (word ∷ rest) = (IsUtf8-string_bytes word, words_are_utf8 rest)

pub as_line : {E : Type 0} (words : List Text) (r : Result (Option CommandLine) E)
    → line_of words ≡ line_by (split_of words) → IfOk r (λ line. line ≡ line_by (split_of words))
    → IfOk r (λ line. line ≡ line_of words)
as_line words (Ok line) law h = h ∙ sym law
as_line words (Err e) law h = tt
