-- The words of a run line, one by one: the walk of `clap` finds what the grammar says.
-- For: `parse`, src/command_lines.rt; `run_of`, `uses_after`, specs/Words.antt
-- By: cases of the next word; induction over the lists of rules and of uses
use Rattle.std.proofs.Common.{◌≡◌, ◌∙◌, ◌||◌, ◌++◌, Bool, cond, true, false, refl, sym, ap, List, [], ◌∷◌, map, Option}
use Rattle.std.proofs.Common.{Some, None, option_map, option_and_then, fold, is_some, bytes_eq}
use Rattle.std.specs.Bool.{⊤}
use Rattle.std.specs.List.{AllByRecursion}
use Rattle.std.specs.Option.{option_map_or}
use Rattle.clap.specs.Kinds.{Kinds, or_else}
use Rattle.clap.specs.Walk.{Held, Row, Rule, Waiting, idle, option, has_row, is_empty, settled, with_default}
use Rattle.clap.specs.Faults.{default_fault, defaults_fault, given_default_fault, settle_fault, use_fault}
use Rattle.golf_command_words.specs.Values.{Text, most_choices}
use Rattle.golf_command_words.specs.Words.{Use, begins_with_hyphen, is_last, is_used, option_in, option_met, run_of}
use Rattle.golf_command_words.specs.Words.{takes_value, uses_after, with_use, word_met}
use Rattle.golf_command_words.specs.ClapCommands.{run_by, unless_fault}
use Rattle.golf_command_words.specs.declared.line.CommandLine.{CommandLine}
use Rattle.golf_command_words.proofs.Outcomes.{dashes_met, ended, fails, outcome, outcome-nil, standing, trailed}
use Rattle.golf_command_words.proofs.Outcomes.{trailed_is, unless_fails}
use Rattle.golf_command_words.proofs.Runs.{IsValued, dashes_hyphen, row, rules, run_shape}
use Rattle.golf_command_words.proofs.Settings.{IsTold, run_is}

-- ---- the end of the words

default_passes : (rows : List Row) (a : Rule) → given_default_fault a a.defaults ≡ [] → default_fault rows a ≡ []
default_passes rows a e = go (has_row a.id rows || is_empty a.defaults)
  where
    go : (b : Bool) → cond b [] (given_default_fault a a.defaults) ≡ []
    go true = refl
    go false = e

pub defaults_pass : (c : List Rule) (rows : List Row) → AllByRecursion (λ a. given_default_fault a a.defaults ≡ []) c
    → defaults_fault rows c ≡ []
unfolding defaults_fault
defaults_pass [] rows h = refl
defaults_pass (a ∷ rest) rows h = ap (λ k. or_else k (defaults_fault (with_default rows a) rest))
    (default_passes rows a h.0) ∙ defaults_pass rest (with_default rows a) h.1

-- the rows, once what is pending is used
abbrev pub seen : Held → Option (List Row)
seen h = unless_fault (settle_fault rules false h) (Some (settled rules h).rows)

abbrev pub with_defaults : List Row → List Row
with_defaults rows = fold with_default rows rules

ended-seen : (h : Held) → ended run_shape h ≡ option_map with_defaults (seen h)
ended-seen h =
    ap (λ k. unless_fault (settle_fault rules false h) (unless_fault k (Some (with_defaults (settled rules h).rows))))
    (defaults_pass rules (settled rules h).rows (refl, (refl, (refl, (refl, (refl, (refl, (refl, tt))))))))
    ∙ go (settle_fault rules false h)
  where
    go : (k : Kinds) → unless_fault k (Some (with_defaults (settled rules h).rows)) ≡ option_map with_defaults
        (unless_fault k (Some (settled rules h).rows))
    go [] = refl
    go (k ∷ ks) = refl

-- ---- what is claimed

abbrev pub held : List Row → Option (Text × List Text) → Held
held rows pending = record { rows = rows; pending = pending; skip = 0 }

abbrev pub read : Option (List Row) → Option CommandLine
read rows = option_and_then (run_by most_choices) rows

abbrev pub line_from : Option (List Use) → List Text → Option CommandLine
line_from us words = option_and_then run_of (option_and_then (λ now. uses_after now None words) us)

abbrev pub AreTold : Option (List Use) → Type 0
AreTold None = ⊤
AreTold (Some us) = AllByRecursion IsTold us

-- if an option may stand
abbrev pub AtRest : List Text → Type 0
AtRest words = (rows : List Row) (pending : Option (Text × List Text)) (us : Option (List Use)) → AreTold us
    → seen (held rows pending) ≡ option_map (map row) us
    → read (outcome run_shape (standing run_shape (held rows pending) idle 1) words) ≡ line_from us words

abbrev pub lacks : List Use → Text → Held
lacks us name = held (map row us) (Some (name, []))

-- if the value of an option stands
abbrev pub AtValue : List Text → Type 0
AtValue words = (us : List Use) (name : Text) → AllByRecursion IsTold us → IsValued name
    → read (outcome run_shape (standing run_shape (lacks us name) (option name) 1) words) ≡ option_and_then run_of
    (uses_after us (Some name) words)

pub told_more : (us : List Use) (u : Use) → AllByRecursion IsTold us → IsTold u → AllByRecursion IsTold (us ++ u ∷ [])
told_more [] u told new = (new, tt)
told_more (v ∷ us) u told new = (told.0, told_more us u told.1 new)

pub told_use : (us : List Use) (name : Text) (value : Option Text) → AllByRecursion IsTold us
    → is_some value ≡ takes_value name → AreTold (with_use us name value)
told_use us name value told new = go (is_used us name)
  where
    go : (b : Bool) → AreTold (cond b None (Some (us ++ (name, value) ∷ [])))
    go true = tt
    go false = told_more us (name, value) told new

-- ---- the end

end_is : (h : Held) (us : Option (List Use)) → AreTold us → seen h ≡ option_map (map row) us
    → read (ended run_shape h) ≡ option_and_then run_of us
end_is h us told is = ap read (ended-seen h ∙ ap (option_map with_defaults) is) ∙ go us told
  where
    go : (o : Option (List Use)) → AreTold o
        → read (option_map with_defaults (option_map (map row) o)) ≡ option_and_then run_of o
    go None t = refl
    go (Some now) t = run_is now t

line_from-nil : (us : Option (List Use)) → line_from us [] ≡ option_and_then run_of us
unfolding uses_after
line_from-nil None = refl
line_from-nil (Some now) = refl

pub rest_nil : AtRest []
rest_nil rows pending us told is =
    ap read (outcome-nil run_shape (standing run_shape (held rows pending) idle 1))
    ∙ end_is (held rows pending) us told is ∙ sym (line_from-nil us)

pub lacks_fails : (us : List Use) (name : Text) → IsValued name
    → fails (settle_fault rules false (lacks us name)) ≡ true
lacks_fails us name v = ap (λ o. fails (option_map_or (λ a. use_fault false a [] (map row us)) o [])) v.kept
    ∙ v.none (map row us)

pub value_nil : AtValue []
unfolding uses_after
value_nil us name told v =
    ap read (outcome-nil run_shape (standing run_shape (lacks us name) (option name) 1)
    ∙ unless_fails (settle_fault rules false (lacks us name)) _ (lacks_fails us name v))

-- ---- `--`

-- nothing may stand after it
pub stray : (h : Held) (waiting : Waiting) (word : Text) (rest : List Text)
    → outcome run_shape (trailed run_shape h waiting 1) (word ∷ rest) ≡ None
stray h waiting word rest = trailed_is run_shape h waiting 1 word rest

pub by_word : (us : List Use) (word : Text) (rest : List Text)
    → uses_after us None (word ∷ rest) ≡ word_met us word rest (λ now waiting. uses_after now waiting rest)
unfolding uses_after
by_word us word rest = refl

-- if the word ends the line, or makes it none
pub line_ends : (us : Option (List Use)) (word : Text) (rest : List Text) (next : List Use → Option (List Use))
    → ((now : List Use) → uses_after now None (word ∷ rest) ≡ next now)
    → line_from us (word ∷ rest) ≡ option_and_then run_of (option_and_then next us)
line_ends None word rest next is = refl
line_ends (Some now) word rest next is = ap (option_and_then run_of) (is now)

pub none_then : (us : Option (List Use)) → option_and_then run_of (option_and_then (λ (now : List Use). None) us) ≡ None
none_then None = refl
none_then (Some now) = refl

some_then : (us : Option (List Use)) → option_and_then run_of (option_and_then (λ (now : List Use). Some now) us)
    ≡ option_and_then run_of us
some_then None = refl
some_then (Some now) = refl

at_dashes : (us : List Use) (word : Text) (rest : List Text) → bytes_eq word (45 ∷ 45 ∷ []) ≡ true
    → uses_after us None (word ∷ rest) ≡ cond (is_last rest) (Some us) None
at_dashes us word rest e =
    by_word us word rest
    ∙ ap (λ b. cond b (cond (is_last rest) (Some us) None)
    (option_and_then (λ (o : Text × Option Text). option_met us o.0 o.1
    (λ now waiting. uses_after now waiting rest)) (option_in word))) e

pub rest_dashes : (word : Text) (rest : List Text) → bytes_eq word (45 ∷ 45 ∷ []) ≡ true → AtRest (word ∷ rest)
rest_dashes word [] e rows pending us told is =
    ap read (dashes_met run_shape (held rows pending) idle 1 word [] e
    ∙ outcome-nil run_shape (trailed run_shape (held rows pending) idle 1))
    ∙ end_is (held rows pending) us told is
    ∙ sym (line_ends us word [] (λ now. Some now) (λ now. at_dashes now word [] e) ∙ some_then us)
rest_dashes word (x ∷ xs) e rows pending us told is =
    ap read (dashes_met run_shape (held rows pending) idle 1 word (x ∷ xs) e ∙ stray (held rows pending) idle x xs)
    ∙ sym (line_ends us word (x ∷ xs) (λ now. None) (λ now. at_dashes now word (x ∷ xs) e) ∙ none_then us)

pub at_hyphen : (us : List Use) (name word : Text) (rest : List Text) (b : Bool) → begins_with_hyphen word ≡ b
    → uses_after us (Some name) (word ∷ rest) ≡ cond b None
    (option_and_then (λ now. uses_after now None rest) (with_use us name (Some word)))
unfolding uses_after
at_hyphen us name word rest b e = ap (λ c. cond c None
    (option_and_then (λ now. uses_after now None rest) (with_use us name (Some word)))) e

pub value_none : (word : Text) (rest : List Text) (us : List Use) (name : Text) → begins_with_hyphen word ≡ true
    → outcome run_shape (standing run_shape (lacks us name) (option name) 1) (word ∷ rest) ≡ None
    → read (outcome run_shape (standing run_shape (lacks us name) (option name) 1) (word ∷ rest))
    ≡ option_and_then run_of (uses_after us (Some name) (word ∷ rest))
value_none word rest us name hyphen none = ap read none
    ∙ sym (ap (option_and_then run_of) (at_hyphen us name word rest true hyphen))

pub value_dashes : (word : Text) (rest : List Text) → bytes_eq word (45 ∷ 45 ∷ []) ≡ true → AtValue (word ∷ rest)
value_dashes word [] e us name told v =
    value_none word [] us name (dashes_hyphen word e)
    (dashes_met run_shape (lacks us name) (option name) 1 word [] e
    ∙ outcome-nil run_shape (trailed run_shape (lacks us name) (option name) 1)
    ∙ unless_fails (settle_fault rules false (lacks us name)) _ (lacks_fails us name v))
value_dashes word (x ∷ xs) e us name told v =
    value_none word (x ∷ xs) us name (dashes_hyphen word e)
    (dashes_met run_shape (lacks us name) (option name) 1 word (x ∷ xs) e ∙ stray (lacks us name) (option name) x xs)
