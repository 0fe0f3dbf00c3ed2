-- What a command without subcommands finds in its words: the rows of its arguments, or none if a word is at fault.
-- For: `parse`, src/command_lines.rt; `split_of`, specs/ClapCommands.antt
-- By: cases of what the next word is: `--`, a long option, short ones, or plain; no induction
use Rattle.std.proofs.Common.{◌≡◌, ◌∙◌, ◌==◌, ◌++◌, ℕ, Bool, cond, true, false, refl, sym, ap, ap₂, List, [], ◌∷◌}
use Rattle.std.proofs.Common.{Option, Some, None, option_and_then, fold, bytes_eq, slice_get, chars, drop, encode_utf8}
use Rattle.std.proofs.Common.{length, IsUtf8, true≢false, eqb-true, arith}
use Rattle.std.specs.Option.{option_map_or}
use Rattle.std.proofs.lemmas.Str.{IsUtf8-past_char, encode_ascii, encodes-chars}
use Rattle.std.proofs.Math.Utf8.{encodes}
use Rattle.clap.specs.Lexer.{long_of, short_of, short_of_rest}
use Rattle.clap.specs.Kinds.{Kinds, or_else}
use Rattle.clap.specs.Walk.{Held, Row, Rule, Step, Waiting, idle, option, positional, trailing, value, Walk, after_flag}
use Rattle.clap.specs.Walk.{after_step, arg_by_index, arg_by_long, arg_by_short, finished, long_met, long_or_other}
use Rattle.clap.specs.Walk.{nothing_held, plain_word, settled, short_or_plain, subcommand_met, subcommand_or_other}
use Rattle.clap.specs.Walk.{to_positional, walk, walk_from, walked}
use Rattle.clap.specs.Simple.{Shape}
use Rattle.clap.specs.Faults.{bundle_fault, bundle_step_fault, check_fault, defaults_fault, flag_word_fault}
use Rattle.clap.specs.Faults.{flags_fault, level_fault, long_fault, other_fault, settle_fault, short_fault, step_fault}
use Rattle.clap.specs.Faults.{turn_fault, walk_fault}
use Rattle.golf_command_words.specs.Values.{Text}
use Rattle.golf_command_words.specs.ClapCommands.{unless_fault}

pub unless_or : {X : Type 0} (a b : Kinds) (o : Option X)
    → unless_fault (or_else a b) o ≡ unless_fault a (unless_fault b o)
unless_or [] b o = refl
unless_or (k ∷ ks) b o = refl

pub unless_none : {X : Type 0} (a : Kinds) → unless_fault {X = X} a None ≡ None
unless_none [] = refl
unless_none (k ∷ ks) = refl

-- what goes on from a value that a fault may have spoilt
pub unless_then : {X Y : Type 0} (a : Kinds) (x : X) (next : X → Option Y)
    → unless_fault a (next x) ≡ option_and_then next (unless_fault a (Some x))
unless_then [] x next = refl
unless_then (k ∷ ks) x next = refl

pub no_names : (waiting : Waiting) (word : Text) → subcommand_met [] waiting word ≡ None
no_names idle word = refl
no_names (option id) word = refl
no_names positional word = refl

abbrev pub fails : Kinds → Bool
fails [] = false
fails (k ∷ ks) = true

pub unless_fails : {X : Type 0} (a : Kinds) (o : Option X) → fails a ≡ true → unless_fault a o ≡ None
unless_fails [] o e = absurd (true≢false (sym e))
unless_fails (k ∷ ks) o e = refl

-- ---- words with a hyphen

-- the word is a hyphen and a text that is not empty
record IsShort (word flags : Text) : Type 0 where
  first : ℕ
  rest : Text
  is : word ≡ 45 ∷ flags
  some : flags ≡ first ∷ rest

abbrev is_some_text : Option Text → Bool
is_some_text None = false
is_some_text (Some t) = true

abbrev text_or : Text → Option Text → Text
text_or d None = d
text_or d (Some t) = t

abbrev some_text : Text → Bool
some_text [] = false
some_text (x ∷ xs) = true

short_parts : (word flags : Text) → short_of word ≡ Some flags → IsShort word flags
short_parts [] flags e = absurd (true≢false (sym (ap is_some_text e)))
short_parts (a ∷ []) flags e = go (a == 45) e
  where
    go : (b : Bool) → option_and_then short_of_rest (cond b (Some []) None) ≡ Some flags → IsShort (a ∷ []) flags
    go true h = absurd (true≢false (sym (ap is_some_text h)))
    go false h = absurd (true≢false (sym (ap is_some_text h)))
short_parts (a ∷ x ∷ xs) flags e = go (a == 45) refl e
  where
    behind : (d : Bool) → a ≡ 45 → cond d None (Some (x ∷ xs)) ≡ Some flags → IsShort (a ∷ x ∷ xs) flags
    behind true is h = absurd (true≢false (sym (ap is_some_text h)))
    behind false is h =
        let same : x ∷ xs ≡ flags = ap (text_or []) h in
        record { first = x; rest = xs; is = ap₂ (λ (c : ℕ) (t : Text). c ∷ t) is same; some = sym same }

    go : (b : Bool) → (a == 45) ≡ b → option_and_then short_of_rest (cond b (Some (x ∷ xs)) None) ≡ Some flags
        → IsShort (a ∷ x ∷ xs) flags
    go true is h = behind (x == 45) (eqb-true a 45 is) h
    go false is h = absurd (true≢false (sym (ap is_some_text h)))

-- the text after the hyphen is UTF-8, and not empty
pub record IsText (flags : Text) : Type 0 where
  pub first : ℕ
  pub rest : Text
  pub some : flags ≡ first ∷ rest
  pub utf8 : IsUtf8 flags

pub short_text : (word flags : Text) → short_of word ≡ Some flags → IsUtf8 word → IsText flags
short_text word flags e utf8 =
    let parts = short_parts word flags e in
    let hyphen : word ≡ encode_utf8 45 ++ flags = parts.is
    ∙ ap (λ (h : Text). h ++ flags) (sym (encode_ascii 45 (omega arith))) in
    record {
      first = parts.first;
      rest = parts.rest;
      some = parts.some;
      utf8 = IsUtf8-past_char word flags 45 utf8 hyphen;
    }

first_char : (cs : List ℕ) (x : ℕ) (xs : Text) → encodes cs ≡ x ∷ xs → (y : ℕ) × (slice_get cs 0 ≡ Some y)
first_char [] x xs e = absurd (true≢false (sym (ap some_text e)))
first_char (y ∷ ys) x xs e = (y, refl)

-- a word `-x..` is at fault if no option is short
pub bundle_fails : (c : List Rule) (again : Bool) (flags : Text) (h : Held) → IsText flags → h.skip ≡ 0
    → ((x : ℕ) → arg_by_short c x ≡ None) → fails (bundle_fault c again flags h) ≡ true
unfolding flags_fault
bundle_fails c again flags h text whole shorts = go flags text.first text.rest text.some text.utf8
  where
    go : (t : Text) (x : ℕ) (xs : Text) → t ≡ x ∷ xs → IsUtf8 t → fails (bundle_fault c again t h) ≡ true
    go [] x xs e utf8 = absurd (true≢false (sym (ap some_text e)))
    go (y ∷ ys) x xs e utf8 =
        let char = first_char (chars (y ∷ ys)) y ys (encodes-chars (y ∷ ys) utf8) in
        let bare : Held = record h { skip = 0 } in
        let next = flags_fault c again (length ys) in
        ap (λ k. fails (bundle_step_fault c again (slice_get (chars (y ∷ ys)) 0) (y ∷ ys) k bare next)) whole
        ∙ ap (λ o. fails (bundle_step_fault c again o (y ∷ ys) 0 bare next)) char.1
        ∙ ap (λ o. fails (short_fault c again o (drop (length (encode_utf8 char.0)) (y ∷ ys)) bare
        (next (drop (length (encode_utf8 char.0)) (y ∷ ys)) 0))) (shorts char.0)

-- the word is `-x..` with these bytes after the hyphen
pub record IsBundle (word flags : Text) : Type 0 where
  pub utf8 : IsUtf8 word
  pub no_dashes : bytes_eq word (45 ∷ 45 ∷ []) ≡ false
  pub no_long : long_of word ≡ None
  pub is : short_of word ≡ Some flags

module _ (s : Shape) where
  -- the rows at the end of the words
  abbrev pub ended : Held → Option (List Row)
  ended h = unless_fault (settle_fault s.rules s.args_override_self h)
      (unless_fault (defaults_fault (settled s.rules h).rows s.rules)
      (unless_fault (check_fault s (finished s.rules h) false) (Some (finished s.rules h))))

  abbrev pub outcome : Walk → List Text → Option (List Row)
  outcome w words = unless_fault (walk_fault s [] w words) (ended (fold (walked s.rules []) w words).held)

  pub outcome-nil : (w : Walk) → outcome w [] ≡ ended w.held
  unfolding walk_fault
  outcome-nil w = refl

  pub outcome-cons : (w : Walk) (word : Text) (rest : List Text)
      → outcome w (word ∷ rest) ≡ unless_fault (turn_fault s [] w word) (outcome (walked s.rules [] w word) rest)
  unfolding walk_fault
  outcome-cons w word rest =
      unless_or (turn_fault s [] w word) (walk_fault s [] (walked s.rules [] w word) rest)
      (ended (fold (walked s.rules []) (walked s.rules [] w word) rest).held)

  pub level_is : (words : List Text)
      → unless_fault (level_fault s [] nothing_held words false [])
      (Some (finished s.rules (walk s.rules [] nothing_held words).held)) ≡ outcome (walk_from nothing_held) words
  level_is words =
      let end = (walk s.rules [] nothing_held words).held in
      let rows = finished s.rules end in
      let asked = check_fault s rows false in
      let given = defaults_fault (settled s.rules end).rows s.rules in
      let used = settle_fault s.rules s.args_override_self end in
      unless_or (walk_fault s [] (walk_from nothing_held) words) (or_else used (or_else given asked)) (Some rows)
      ∙ ap (λ o. unless_fault (walk_fault s [] (walk_from nothing_held) words) o)
      (unless_or used (or_else given asked) (Some rows)
      ∙ ap (λ o. unless_fault used o) (unless_or given asked (Some rows)))

  -- if no `--` and no subcommand came yet
  abbrev pub standing : Held → Waiting → ℕ → Walk
  standing h waiting position = record {
    held = h;
    waiting = waiting;
    position = position;
    is_trailing = false;
    stopped = None;
  }

  abbrev pub trailed : Held → Waiting → ℕ → Walk
  trailed h waiting position = record (standing h waiting position) { is_trailing = true }

  -- one word, by its fault and by what it was
  abbrev pub turned : Held → Waiting → ℕ → Text → List Text → Kinds → Held × Step → Option (List Row)
  turned h waiting position word rest fault met =
      unless_fault (or_else fault (step_fault s position met.0 met.1))
      (outcome (after_step s.rules word (standing h waiting position) met.0 met.1) rest)

  turn_is : (h : Held) (waiting : Waiting) (position : ℕ) (word : Text) (rest : List Text)
      → outcome (standing h waiting position) (word ∷ rest)
      ≡ turned h waiting position word rest (other_fault s (subcommand_met [] waiting word) word h)
      (subcommand_or_other s.rules (subcommand_met [] waiting word) waiting position word h)
  unfolding walked
  turn_is h waiting position word rest = outcome-cons (standing h waiting position) word rest

  by_dashes : (h : Held) (waiting : Waiting) (position : ℕ) (word : Text) (rest : List Text) (b : Bool)
      → bytes_eq word (45 ∷ 45 ∷ []) ≡ b
      → outcome (standing h waiting position) (word ∷ rest) ≡ turned h waiting position word rest
      (cond b [] (flag_word_fault s.rules s.args_override_self (long_of word) word h))
      (cond b (h, trailing position) (long_or_other s.rules waiting word (long_of word) h))
  by_dashes h waiting position word rest b e =
      turn_is h waiting position word rest
      ∙ ap (λ o. turned h waiting position word rest (other_fault s o word h)
      (subcommand_or_other s.rules o waiting position word h)) (no_names waiting word)
      ∙ ap (λ t. turned h waiting position word rest
      (cond t [] (flag_word_fault s.rules s.args_override_self (long_of word) word h))
      (cond t (h, trailing position) (long_or_other s.rules waiting word (long_of word) h))) e

  pub dashes_met : (h : Held) (waiting : Waiting) (position : ℕ) (word : Text) (rest : List Text)
      → bytes_eq word (45 ∷ 45 ∷ []) ≡ true
      → outcome (standing h waiting position) (word ∷ rest) ≡ outcome (trailed h waiting position) rest
  dashes_met h waiting position word rest e = by_dashes h waiting position word rest true e

  by_long : (h : Held) (waiting : Waiting) (position : ℕ) (word : Text) (rest : List Text)
      (o : Option (Text × Option Text)) → bytes_eq word (45 ∷ 45 ∷ []) ≡ false
      → long_of word ≡ o → outcome (standing h waiting position) (word ∷ rest) ≡ turned h waiting position word rest
      (flag_word_fault s.rules s.args_override_self o word h) (long_or_other s.rules waiting word o h)
  by_long h waiting position word rest o e is =
      by_dashes h waiting position word rest false e
      ∙ ap (λ t. turned h waiting position word rest (flag_word_fault s.rules s.args_override_self t word h)
      (long_or_other s.rules waiting word t h)) is

  -- a word `--name` or `--name=value`, by the argument of that name
  pub long_is : (h : Held) (waiting : Waiting) (position : ℕ) (word : Text) (rest : List Text) (name : Text)
      (text : Option Text) (found : Option Rule)
      → bytes_eq word (45 ∷ 45 ∷ []) ≡ false → long_of word ≡ Some (name, text) → arg_by_long s.rules name ≡ found
      → outcome (standing h waiting position) (word ∷ rest) ≡ turned h waiting position word rest
      (long_fault s.rules s.args_override_self found text h)
      (after_flag s.rules waiting word (long_met s.rules found text h).0 (long_met s.rules found text h).1)
  long_is h waiting position word rest name text found e is by =
      by_long h waiting position word rest (Some (name, text)) e is
      ∙ ap (λ a. turned h waiting position word rest (long_fault s.rules s.args_override_self a text h)
      (after_flag s.rules waiting word (long_met s.rules a text h).0 (long_met s.rules a text h).1)) by

  -- a word `-x..` of a command without short options
  pub short_is : {flags : Text} (h : Held) (waiting : Waiting) (position : ℕ) (word : Text) (rest : List Text)
      → IsBundle word flags → h.skip ≡ 0 → ((x : ℕ) → arg_by_short s.rules x ≡ None)
      → outcome (standing h waiting position) (word ∷ rest) ≡ None
  short_is {flags} h waiting position word rest short whole shorts =
      by_long h waiting position word rest None short.no_dashes short.no_long
      ∙ ap (λ o. turned h waiting position word rest
      (option_map_or (λ t. bundle_fault s.rules s.args_override_self t h) o [])
      (short_or_plain s.rules waiting word o h)) short.is
      ∙ unless_or (bundle_fault s.rules s.args_override_self flags h) (step_fault s position met.0 met.1)
      (outcome (after_step s.rules word (standing h waiting position) met.0 met.1) rest)
      ∙ unless_fails (bundle_fault s.rules s.args_override_self flags h) _
      (bundle_fails s.rules s.args_override_self flags h (short_text word flags short.is short.utf8) whole shorts)
    where
      met : Held × Step
      met = short_or_plain s.rules waiting word (Some flags) h

  -- any other word
  pub plain_is : (h : Held) (waiting : Waiting) (position : ℕ) (word : Text) (rest : List Text)
      → bytes_eq word (45 ∷ 45 ∷ []) ≡ false
      → long_of word ≡ None → short_of word ≡ None
      → outcome (standing h waiting position) (word ∷ rest) ≡ turned h waiting position word rest []
      (plain_word s.rules waiting word h)
  plain_is h waiting position word rest e none short =
      by_long h waiting position word rest None e none
      ∙ ap (λ o. turned h waiting position word rest
      (option_map_or (λ t. bundle_fault s.rules s.args_override_self t h) o [])
      (short_or_plain s.rules waiting word o h)) short

  -- a word after `--`
  pub trailed_is : (h : Held) (waiting : Waiting) (position : ℕ) (word : Text) (rest : List Text)
      → outcome (trailed h waiting position) (word ∷ rest)
      ≡ unless_fault (step_fault s position h value)
      (outcome (to_positional s.rules (arg_by_index s.rules position) word (trailed h waiting position) h) rest)
  unfolding walked
  trailed_is h waiting position word rest = outcome-cons (trailed h waiting position) word rest
