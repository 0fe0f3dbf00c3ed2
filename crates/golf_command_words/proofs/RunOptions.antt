-- A word of a run line that is an option: `clap` does with it what the grammar says.
-- For: `parse`, src/command_lines.rt; `uses_after`, specs/Words.antt
-- By: cases of the option's name and of its value; no induction
use Rattle.std.proofs.Common.{◌≡◌, ◌∙◌, ◌&&◌, ◌++◌, Bool, cond, true, false, refl, sym, ap, ap₂, List, [], ◌∷◌, map}
use Rattle.std.proofs.Common.{Option, Some, None, option_map, option_and_then, is_some, bytes_eq}
use Rattle.std.specs.List.{AllByRecursion}
use Rattle.clap.specs.Lexer.{long_of}
use Rattle.clap.specs.Kinds.{Kinds, or_else}
use Rattle.clap.specs.Walk.{Held, Row, Rule, idle, option, after_flag, flag_met, option_met, settled, used}
use Rattle.clap.specs.Faults.{option_fault, react_fault, repeat_fault, settle_fault, use_fault}
use Rattle.clap.specs.declared.error.kind.ErrorKind.TheVariants.{ArgumentConflict, TooManyValues}
use Rattle.golf_command_words.specs.Values.{Text}
use Rattle.golf_command_words.specs.Words.{Use, is_flag, is_last, is_used, option_in, run_of, takes_value, uses_after}
use Rattle.golf_command_words.specs.Words.{with_use}
use Rattle.golf_command_words.specs.Words.{option_met as option_told}
use Rattle.golf_command_words.specs.ClapCommands.{unless_fault}
use Rattle.golf_command_words.proofs.Outcomes.{long_is, outcome, standing, turned, unless_then}
use Rattle.golf_command_words.proofs.Runs.{IsFlag, IsValued, flagged, has_row-used, new_use, option_in-long}
use Rattle.golf_command_words.proofs.Runs.{or_else-nil, row, rules, run_shape, unknown, used_rows, valued}
use Rattle.golf_command_words.proofs.Settings.{IsTold}
use Rattle.golf_command_words.proofs.RunWords.{AreTold, AtRest, AtValue, by_word, held, line_ends, line_from, none_then}
use Rattle.golf_command_words.proofs.RunWords.{read, seen, told_more}

-- the next words, once the argument is used
abbrev used_then : Rule → List Text → List Text → List Row → Option (List Row)
used_then a values rest rows = unless_fault (use_fault false a values rows)
    (outcome run_shape (standing run_shape (held (used a values rows) None) idle 1) rest)

two_faults : {X : Type 0} (a b : Kinds) (o : Option X)
    → unless_fault (or_else (or_else a b) []) o ≡ unless_fault a (unless_fault b o)
two_faults [] b o = ap (λ k. unless_fault k o) (or_else-nil b)
two_faults (k ∷ ks) b o = refl

one_fault : {X : Type 0} (a : Kinds) (o : Option X) → unless_fault (or_else a []) o ≡ unless_fault a o
one_fault a o = ap (λ k. unless_fault k o) (or_else-nil a)

-- an argument that is used at a word
reacts : (h : Held) (a : Rule) (values : List Text) (rest : List Text) (o : List Row → Option (List Row))
    → unless_fault (or_else (react_fault rules false a values h) []) (o (settled rules h).rows)
    ≡ option_and_then (λ rows. unless_fault (use_fault false a values rows) (o rows)) (seen h)
reacts h a values rest o =
    two_faults (settle_fault rules false h) (use_fault false a values (settled rules h).rows) (o (settled rules h).rows)
    ∙ unless_then (settle_fault rules false h) (settled rules h).rows
    (λ rows. unless_fault (use_fault false a values rows) (o rows))

-- what is seen so far, and the word
seen_then : (us : Option (List Use)) (next : List Row → Option (List Row)) (word : Text) (rest : List Text)
    (o : Option (List Row)) → AreTold us → o ≡ option_map (map row) us
    → ((now : List Use) → AllByRecursion IsTold now
    → read (next (map row now)) ≡ option_and_then run_of (uses_after now None (word ∷ rest)))
    → read (option_and_then next o) ≡ line_from us (word ∷ rest)
seen_then us next word rest o told is each = ap (λ x. read (option_and_then next x)) is ∙ go us told
  where
    go : (now : Option (List Use)) → AreTold now
        → read (option_and_then next (option_map (map row) now)) ≡ line_from now (word ∷ rest)
    go None t = refl
    go (Some now) t = each now t

-- a use that is at fault, or is one more
use_then : (a : Rule) (values : List Text) (name : Text) (value : Option Text) (rest : List Text)
    → ((rows : List Row) → use_fault false a values rows ≡ repeat_fault false name rows)
    → ((rows : List Row) → used a values rows ≡ used_rows name value rows)
    → is_some value ≡ takes_value name → AtRest rest → (us : List Use) → AllByRecursion IsTold us
    → read (used_then a values rest (map row us)) ≡ line_from (with_use us name value) rest
use_then a values name value rest fault gives new later us told =
    ap₂ (λ (k : Kinds) (rows : List Row). read
    (unless_fault k (outcome run_shape (standing run_shape (held rows None) idle 1) rest))) (fault (map row us))
    (gives (map row us))
    ∙ go (is_used us name) refl
  where
    after : Option (List Row)
    after = outcome run_shape (standing run_shape (held (used_rows name value (map row us)) None) idle 1) rest

    go : (b : Bool) → is_used us name ≡ b → read (unless_fault (repeat_fault false name (map row us)) after) ≡ line_from
        (with_use us name value) rest
    go true e =
        ap (λ b. read (unless_fault (cond (b && true) (ArgumentConflict ∷ []) []) after)) (has_row-used us name ∙ e)
        ∙ sym (ap (λ b. line_from (cond b None (Some (us ++ (name, value) ∷ []))) rest) e)
    go false e =
        ap (λ b. read (unless_fault (cond (b && true) (ArgumentConflict ∷ []) []) after)) (has_row-used us name ∙ e)
        ∙ later (used_rows name value (map row us)) None (Some (us ++ (name, value) ∷ []))
        (told_more us (name, value) told new) (ap Some (new_use us name value e))
        ∙ sym (ap (λ b. line_from (cond b None (Some (us ++ (name, value) ∷ []))) rest) e)

-- a word that is not `--` is the option that `clap` sees in it, or none
pub at_word : (us : List Use) (word : Text) (rest : List Text) → bytes_eq word (45 ∷ 45 ∷ []) ≡ false
    → uses_after us None (word ∷ rest) ≡ option_and_then (λ (o : Text × Option Text). option_told us o.0 o.1
    (λ now waiting. uses_after now waiting rest)) (long_of word)
at_word us word rest e =
    by_word us word rest
    ∙ ap (λ b. cond b (cond (is_last rest) (Some us) None)
    (option_and_then (λ (o : Text × Option Text). option_told us o.0 o.1 (λ now waiting. uses_after now waiting rest))
    (option_in word))) e
    ∙ ap (option_and_then (λ (o : Text × Option Text). option_told us o.0 o.1
    (λ now waiting. uses_after now waiting rest))) (option_in-long word e)

at_long : (us : List Use) (word : Text) (rest : List Text) (name : Text) (value : Option Text)
    → bytes_eq word (45 ∷ 45 ∷ []) ≡ false → long_of word ≡ Some (name, value)
    → uses_after us None (word ∷ rest) ≡ option_told us name value (λ now waiting. uses_after now waiting rest)
at_long us word rest name value e is =
    at_word us word rest e
    ∙ ap (option_and_then (λ (o : Text × Option Text). option_told us o.0 o.1
    (λ now waiting. uses_after now waiting rest))) is

-- `--name=value` of an option with a value
rest_attached : (word : Text) (rest : List Text) (name text : Text) → IsValued name
    → bytes_eq word (45 ∷ 45 ∷ []) ≡ false → long_of word ≡ Some (name, Some text)
    → AtRest rest → AtRest (word ∷ rest)
rest_attached word rest name text v e is later rows pending us told same =
    let h = held rows pending in
    ap read (long_is run_shape h idle 1 word rest name (Some text) (Some v.rule) e is v.found
    ∙ ap (λ t. turned run_shape h idle 1 word rest
    (cond t (option_fault rules false v.rule (Some text) h) (TooManyValues ∷ []))
    (after_flag rules idle word (cond t (option_met rules v.rule (Some text) h) (flag_met rules v.rule (Some text) h)).0
    (cond t (option_met rules v.rule (Some text) h) (flag_met rules v.rule (Some text) h)).1)) v.takes
    ∙ reacts h v.rule (text ∷ []) rest (λ now. outcome run_shape
    (standing run_shape (held (used v.rule (text ∷ []) now) None) idle 1) rest))
    ∙ seen_then us (used_then v.rule (text ∷ []) rest) word rest (seen h) told same (λ now t.
    use_then v.rule (text ∷ []) name (Some text) rest (v.fault text) (v.gives text) (sym v.told) later now t
    ∙ sym (ap (option_and_then run_of) (at_long now word rest name (Some text) e is
    ∙ ap (λ b. cond b (option_and_then (λ more. uses_after more None rest) (with_use now name (Some text))) None)
    v.told)))

-- `--name` of an option with a value
rest_alone : (word : Text) (rest : List Text) (name : Text) → IsValued name → bytes_eq word (45 ∷ 45 ∷ []) ≡ false
    → long_of word ≡ Some (name, None)
    → AtValue rest → AtRest (word ∷ rest)
rest_alone word rest name v e is later rows pending us told same =
    let h = held rows pending in
    let next : List Row → Option (List Row) =
    λ now. outcome run_shape (standing run_shape (held now (Some (v.rule.id, []))) (option v.rule.id) 1) rest in
    ap read (long_is run_shape h idle 1 word rest name None (Some v.rule) e is v.found
    ∙ ap (λ t. turned run_shape h idle 1 word rest
    (cond t (option_fault rules false v.rule None h) (react_fault rules false v.rule [] h))
    (after_flag rules idle word (cond t (option_met rules v.rule None h) (flag_met rules v.rule None h)).0
    (cond t (option_met rules v.rule None h) (flag_met rules v.rule None h)).1)) v.takes
    ∙ one_fault (settle_fault rules false h) (next (settled rules h).rows)
    ∙ unless_then (settle_fault rules false h) (settled rules h).rows next)
    ∙ seen_then us next word rest (seen h) told same (λ now t.
    ap (λ id. read (outcome run_shape (standing run_shape (held (map row now) (Some (id, []))) (option id) 1) rest))
    v.id
    ∙ later now name t v
    ∙ sym (ap (option_and_then run_of) (at_long now word rest name None e is
    ∙ ap (λ b. cond b (uses_after now (Some name) rest)
    (cond (is_flag name) (option_and_then (λ more. uses_after more None rest) (with_use now name None)) None)) v.told)))

-- a word that no line has there
pub rest_none : (word : Text) (rest : List Text) (rows : List Row) (pending : Option (Text × List Text))
    (us : Option (List Use))
    → outcome run_shape (standing run_shape (held rows pending) idle 1) (word ∷ rest) ≡ None
    → ((now : List Use) → uses_after now None (word ∷ rest) ≡ None)
    → read (outcome run_shape (standing run_shape (held rows pending) idle 1) (word ∷ rest)) ≡ line_from us
    (word ∷ rest)
rest_none word rest rows pending us none each = ap read none
    ∙ sym (line_ends us word rest (λ now. None) each ∙ none_then us)

-- `--name` of an option without a value
rest_flag : (word : Text) (rest : List Text) (name : Text) → IsFlag name → bytes_eq word (45 ∷ 45 ∷ []) ≡ false
    → long_of word ≡ Some (name, None) → AtRest rest → AtRest (word ∷ rest)
rest_flag word rest name v e is later rows pending us told same =
    let h = held rows pending in
    ap read (long_is run_shape h idle 1 word rest name None (Some v.rule) e is v.found
    ∙ ap (λ t. turned run_shape h idle 1 word rest
    (cond t (option_fault rules false v.rule None h) (react_fault rules false v.rule [] h))
    (after_flag rules idle word (cond t (option_met rules v.rule None h) (flag_met rules v.rule None h)).0
    (cond t (option_met rules v.rule None h) (flag_met rules v.rule None h)).1)) v.takes
    ∙ reacts h v.rule [] rest (λ now. outcome run_shape
    (standing run_shape (held (used v.rule [] now) None) idle 1) rest))
    ∙ seen_then us (used_then v.rule [] rest) word rest (seen h) told same (λ now t.
    use_then v.rule [] name None rest v.fault v.gives (sym v.untold) later now t
    ∙ sym (ap (option_and_then run_of) (at_long now word rest name None e is
    ∙ ap₂ (λ b c. cond b (uses_after now (Some name) rest)
    (cond c (option_and_then (λ more. uses_after more None rest) (with_use now name None)) None))
    v.untold v.told)))

-- any other option, and a value that an option does not take
rest_other : (word : Text) (rest : List Text) (name : Text) (value : Option Text) → bytes_eq word (45 ∷ 45 ∷ []) ≡ false
    → long_of word ≡ Some (name, value)
    → takes_value name ≡ false → is_flag name ≡ false → AtRest (word ∷ rest)
rest_other word rest name value e is takes other rows pending us told same =
    rest_none word rest rows pending us
    (long_is run_shape (held rows pending) idle 1 word rest name value None e is (unknown name takes other))
    (λ now. at_long now word rest name value e is ∙ go now value)
  where
    go : (now : List Use) (v : Option Text)
        → option_told now name v (λ more waiting. uses_after more waiting rest) ≡ None
    go now (Some text) = ap (λ b. cond b (option_and_then (λ more. uses_after more None rest)
        (with_use now name (Some text))) None) takes
    go now None = ap₂ (λ b c. cond b (uses_after now (Some name) rest)
        (cond c (option_and_then (λ more. uses_after more None rest) (with_use now name None)) None)) takes other

rest_flag_value : (word : Text) (rest : List Text) (name text : Text) → IsFlag name
    → bytes_eq word (45 ∷ 45 ∷ []) ≡ false → long_of word ≡ Some (name, Some text) → AtRest (word ∷ rest)
rest_flag_value word rest name text v e is rows pending us told same =
    let h = held rows pending in
    rest_none word rest rows pending us
    (long_is run_shape h idle 1 word rest name (Some text) (Some v.rule) e is v.found
    ∙ ap (λ t. turned run_shape h idle 1 word rest
    (cond t (option_fault rules false v.rule (Some text) h) (TooManyValues ∷ []))
    (after_flag rules idle word (cond t (option_met rules v.rule (Some text) h) (flag_met rules v.rule (Some text) h)).0
    (cond t (option_met rules v.rule (Some text) h) (flag_met rules v.rule (Some text) h)).1)) v.takes)
    (λ now. at_long now word rest name (Some text) e is
    ∙ ap (λ b. cond b (option_and_then (λ more. uses_after more None rest) (with_use now name (Some text))) None)
    v.untold)

-- a word `--name` or `--name=value`
pub rest_long : (word : Text) (rest : List Text) (name : Text) (value : Option Text)
    → bytes_eq word (45 ∷ 45 ∷ []) ≡ false → long_of word ≡ Some (name, value)
    → AtRest rest → AtValue rest → AtRest (word ∷ rest)
rest_long word rest name value e is at_rest at_value = go (takes_value name) (is_flag name) value refl refl is
  where
    go : (t r : Bool) (v : Option Text) → takes_value name ≡ t → is_flag name ≡ r → long_of word ≡ Some (name, v)
        → AtRest (word ∷ rest)
    go true r (Some text) takes known l = rest_attached word rest name text (valued name takes) e l at_rest
    go true r None takes known l = rest_alone word rest name (valued name takes) e l at_value
    go false true (Some text) takes known l = rest_flag_value word rest name text (flagged name known) e l
    go false true None takes known l = rest_flag word rest name (flagged name known) e l at_rest
    go false false v takes known l = rest_other word rest name v e l takes known
