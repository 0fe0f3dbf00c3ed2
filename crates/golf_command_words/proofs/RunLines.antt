-- A run line, whole: `clap` finds in its words what the grammar says.
-- For: `parse`, src/command_lines.rt; `run_of`, `uses_after`, specs/Words.antt
-- By: induction over the list of words
use Rattle.std.proofs.Common.{◌≡◌, ◌∙◌, Bool, cond, true, false, refl, sym, ap, ap₂, List, [], ◌∷◌, map, length, Option}
use Rattle.std.proofs.Common.{Some, None, option_and_then, bytes_eq, nat_lt, is_some, IsUtf8, true≢false}
use Rattle.std.specs.List.{AllByRecursion}
use Rattle.std.specs.Option.{option_map_or}
use Rattle.std.proofs.lemmas.Slice.Eq.{bytes_eq-Decides}
use Rattle.clap.specs.Lexer.{long_of, short_of}
use Rattle.clap.specs.Kinds.{Kinds, or_else}
use Rattle.clap.specs.Walk.{Held, Row, Rule, idle, option, arg_by_long, most_values, next, nothing_held, option_word}
use Rattle.clap.specs.Walk.{takes_values, used_by_id, walk_from}
use Rattle.clap.specs.Faults.{long_fault, option_fault, react_fault, settle_fault, use_fault}
use Rattle.clap.specs.declared.error.kind.ErrorKind.TheVariants.{TooManyValues}
use Rattle.golf_command_words.specs.Values.{Text, most_choices}
use Rattle.golf_command_words.specs.Words.{Use, option_met, run_of, uses_after, with_use}
use Rattle.golf_command_words.specs.ClapCommands.{run_by, unless_fault}
use Rattle.golf_command_words.proofs.Outcomes.{IsBundle, fails, long_is, outcome, plain_is, short_is, standing, turned}
use Rattle.golf_command_words.proofs.Outcomes.{unless_fails, unless_or}
use Rattle.golf_command_words.proofs.Runs.{long_hyphen, plain_hyphen, row, rules, run_shape}
use Rattle.golf_command_words.proofs.Runs.{short_hyphen, use_is}
use Rattle.golf_command_words.proofs.RunWords.{AtRest, AtValue, at_hyphen, held, lacks, lacks_fails}
use Rattle.golf_command_words.proofs.RunWords.{rest_dashes, rest_nil, told_use, value_dashes, value_nil, value_none}
use Rattle.golf_command_words.proofs.RunOptions.{at_word, rest_long, rest_none}

-- ---- a word that no option is

no_option : (us : List Use) (word : Text) (rest : List Text) → bytes_eq word (45 ∷ 45 ∷ []) ≡ false
    → long_of word ≡ None → uses_after us None (word ∷ rest) ≡ None
no_option us word rest e none =
    at_word us word rest e
    ∙ ap (option_and_then (λ (o : Text × Option Text). option_met us o.0 o.1
    (λ now waiting. uses_after now waiting rest))) none

rest_short : {flags : Text} (word : Text) (rest : List Text) → IsBundle word flags → AtRest (word ∷ rest)
rest_short word rest short rows pending us told same =
    rest_none word rest rows pending us (short_is run_shape (held rows pending) idle 1 word rest short refl (λ x. refl))
    (λ now. no_option now word rest short.no_dashes short.no_long)

rest_plain : (word : Text) (rest : List Text) → bytes_eq word (45 ∷ 45 ∷ []) ≡ false → long_of word ≡ None
    → short_of word ≡ None → AtRest (word ∷ rest)
rest_plain word rest e none short rows pending us told same =
    rest_none word rest rows pending us (plain_is run_shape (held rows pending) idle 1 word rest e none short)
    (λ now. no_option now word rest e none)

rest_word : (word : Text) (rest : List Text) → IsUtf8 word → AtRest rest → AtValue rest → AtRest (word ∷ rest)
rest_word word rest utf8 at_rest at_value =
    go (bytes_eq word (45 ∷ 45 ∷ [])) (long_of word) (short_of word) refl refl refl
  where
    go : (b : Bool) (l : Option (Text × Option Text)) (s : Option Text) → bytes_eq word (45 ∷ 45 ∷ []) ≡ b
        → long_of word ≡ l → short_of word ≡ s → AtRest (word ∷ rest)
    go true l s e is short = rest_dashes word rest e
    go false (Some p) s e is short = rest_long word rest p.0 p.1 e is at_rest at_value
    go false None (Some flags) e is short =
        rest_short word rest (record { utf8 = utf8; no_dashes = e; no_long = is; is = short })
    go false None None e is short = rest_plain word rest e is short

-- ---- a word if a value is wanted

pub settle_first : (a b : Kinds) → fails a ≡ true → fails (or_else a b) ≡ true
settle_first [] b e = absurd (true≢false (sym e))
settle_first (k ∷ ks) b e = refl

long_fails : (found : Option Rule) (value : Option Text) (h : Held) → fails (settle_fault rules false h) ≡ true
    → fails (long_fault rules false found value h) ≡ true
long_fails None value h e = refl
long_fails (Some a) value h e = go (takes_values a) value
  where
    go : (b : Bool) (v : Option Text)
        → fails (cond b (option_fault rules false a v h)
        (cond (is_some v) (TooManyValues ∷ []) (react_fault rules false a [] h))) ≡ true
    go true (Some text) = settle_first (settle_fault rules false h) _ e
    go true None = e
    go false (Some text) = refl
    go false None = settle_first (settle_fault rules false h) _ e

value_long : (word : Text) (rest : List Text) (name : Text) (value : Option Text) → bytes_eq word (45 ∷ 45 ∷ []) ≡ false
    → long_of word ≡ Some (name, value) → AtValue (word ∷ rest)
value_long word rest name value e is us waits told v =
    let found = arg_by_long rules name in
    let h = lacks us waits in
    value_none word rest us waits (long_hyphen word (name, value) is)
    (long_is run_shape h (option waits) 1 word rest name value found e is refl
    ∙ unless_or (long_fault rules false found value h) _ _
    ∙ unless_fails (long_fault rules false found value h) _ (long_fails found value h (lacks_fails us waits v)))

value_short : {flags : Text} (word : Text) (rest : List Text) → IsBundle word flags → AtValue (word ∷ rest)
value_short {flags} word rest short us name told v =
    value_none word rest us name (short_hyphen word flags short.is)
    (short_is run_shape (lacks us name) (option name) 1 word rest short refl (λ x. refl))

-- one value is all that it takes
filled_up : (name word : Text) (a : Rule) → a.id ≡ name → most_values a ≡ 1
    → nat_lt (cond (bytes_eq name a.id) (length (word ∷ [])) 0) (most_values a) ≡ false
filled_up name word a id most =
    ap₂ (λ b m. nat_lt (cond b (length (word ∷ [])) 0) m) ((bytes_eq-Decides name a.id).1 (sym id)) most

value_plain : (word : Text) (rest : List Text) → bytes_eq word (45 ∷ 45 ∷ []) ≡ false → long_of word ≡ None
    → short_of word ≡ None → AtRest rest → AtValue (word ∷ rest)
value_plain word rest e none short later us name told v =
    let h = lacks us name in
    let full : Held = held (map row us) (Some (name, word ∷ [])) in
    let rows = map row us in
    ap (λ (o : Option (List Row)). option_and_then (run_by most_choices) o)
    (plain_is run_shape h (option name) 1 word rest e none short
    ∙ ap (λ a. turned run_shape h (option name) 1 word rest []
    ((option_word a name word h).0, next (option_word a name word h).1)) v.kept
    ∙ ap (λ b. outcome run_shape (standing run_shape full (cond b (option name) idle) 1) rest)
    (filled_up name word v.rule v.id v.most))
    ∙ later rows (Some (name, word ∷ [])) (with_use us name (Some word))
    (told_use us name (Some word) told (sym v.told))
    (ap (λ a. unless_fault (option_map_or (λ r. use_fault false r (word ∷ []) rows) a [])
    (Some (used_by_id a (word ∷ []) rows))) v.kept
    ∙ ap₂ (λ (k : Kinds) (r : List Row). unless_fault k (Some r)) (v.fault word rows) (v.gives word rows)
    ∙ use_is us name (Some word))
    ∙ sym (ap (option_and_then run_of) (at_hyphen us name word rest false (plain_hyphen word e none short)))

value_word : (word : Text) (rest : List Text) → IsUtf8 word → AtRest rest → AtValue (word ∷ rest)
value_word word rest utf8 at_rest = go (bytes_eq word (45 ∷ 45 ∷ [])) (long_of word) (short_of word) refl refl refl
  where
    go : (b : Bool) (l : Option (Text × Option Text)) (s : Option Text) → bytes_eq word (45 ∷ 45 ∷ []) ≡ b
        → long_of word ≡ l → short_of word ≡ s → AtValue (word ∷ rest)
    go true l s e is short = value_dashes word rest e
    go false (Some p) s e is short = value_long word rest p.0 p.1 e is
    go false None (Some flags) e is short =
        value_short word rest (record { utf8 = utf8; no_dashes = e; no_long = is; is = short })
    go false None None e is short = value_plain word rest e is short at_rest

-- ---- the line

each_word : (words : List Text) → AllByRecursion IsUtf8 words → AtRest words × AtValue words
each_word [] utf8 = (rest_nil, value_nil)
each_word (word ∷ rest) utf8 =
    let later = each_word rest utf8.1 in
    (rest_word word rest utf8.0 later.0 later.1, value_word word rest utf8.0 later.0)

-- the words after `run` give the line that the grammar gives
pub run_line_is : (words : List Text) → AllByRecursion IsUtf8 words
    → option_and_then (run_by most_choices) (outcome run_shape (walk_from nothing_held) words) ≡ option_and_then run_of
    (uses_after [] None words)
run_line_is words utf8 = (each_word words utf8).0 [] None (Some []) tt refl
