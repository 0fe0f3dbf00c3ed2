-- What the walk of `clap` over the words of a run line comes to.
-- For: `parse`, src/command_lines.rt; `is_used`, `option_in`, specs/Words.antt
-- By: computing the rule of each option; cases of the word; induction over the list of rows
use Rattle.std.proofs.Common.{◌≡◌, ◌∙◌, ◌&&◌, ◌==◌, ◌++◌, inl, inr, Bool, cond, true, false, refl, sym, ap, subst, List}
use Rattle.std.proofs.Common.{[], ◌∷◌, map, Option, Some, None, option_map, option_and_then, is_some, bytes_eq, codes}
use Rattle.std.proofs.Common.{true≢false, append-nil}
use Rattle.std.proofs.lemmas.Bool.{or_cases, or_parts}
use Rattle.std.proofs.lemmas.List.{map-append}
use Rattle.std.proofs.lemmas.Slice.Eq.{bytes_eq-Decides}
use Rattle.clap.proofs.WalkLemmas.{list_any-map}
use Rattle.clap.specs.Lexer.{long_of, long_of_rest, short_of, short_of_rest, strip_byte}
use Rattle.clap.specs.Kinds.{Kinds, or_else}
use Rattle.clap.specs.Walk.{Row, Rule, arg_by_id, arg_by_long, at_row, has_row, more_values, most_values, takes_values}
use Rattle.clap.specs.Walk.{used, with_values, without}
use Rattle.clap.specs.declared.parser.matches.ValueSource.TheVariants as value_source
use Rattle.clap.specs.declared.builder.value_parser.Reading.TheVariants.{AsWritten}
use Rattle.clap.specs.Simple.{Shape, built_leaf, inherited}
use Rattle.clap.specs.Faults.{repeat_fault, use_fault}
use Rattle.golf_command_words.specs.Values.{Text}
use Rattle.golf_command_words.specs.Words.{Use, begins_with_hyphen, is_used, name_behind, option_in, takes_value}
use Rattle.golf_command_words.specs.Words.{with_use, is_flag}
use Rattle.golf_command_words.specs.ClapCommands.{program_app, run_app, unless_fault}
use Rattle.golf_command_words.proofs.Outcomes.{fails}

abbrev pub run_shape : Shape
run_shape = built_leaf (inherited program_app.top run_app.top)

abbrev pub rules : List Rule
rules = run_shape.rules

pub or_else-nil : (a : Kinds) → or_else a [] ≡ a
or_else-nil [] = refl
or_else-nil (k ∷ ks) = refl

pub same_text : (a b : Text) → bytes_eq a b ≡ true → a ≡ b
same_text a b e = (bytes_eq-Decides a b).0 e

-- ---- uses and rows

abbrev pub value_of : Option Text → Text
value_of None = codes "true"
value_of (Some text) = text

abbrev pub row : Use → Row
row u = record {
  id = u.0;
  values = value_of u.1 ∷ [];
  count = None;
  source = Some value_source.CommandLine;
  reading = AsWritten;
}

pub has_row-used : (us : List Use) (name : Text) → has_row name (map row us) ≡ is_used us name
has_row-used us name = sym (list_any-map (λ (r : Row). bytes_eq r.id name) row us)

pub at_no_row : (id : Text) (change : Row → List Row) (missing rows : List Row) → has_row id rows ≡ false
    → at_row id change missing rows ≡ rows ++ missing
at_no_row id change missing [] e = refl
at_no_row id change missing (r ∷ rs) e =
    let parts = or_parts (bytes_eq r.id id) (has_row id rs) e in
    ap (λ b. cond b (change r ++ rs) (r ∷ at_row id change missing rs)) parts.0
    ∙ ap (λ rows. r ∷ rows) (at_no_row id change missing rs parts.1)

-- the rows with one use more
abbrev pub used_rows : Text → Option Text → List Row → List Row
used_rows name value rows = with_values name AsWritten value_source.CommandLine (value_of value ∷ [])
    (without name rows)

pub new_use : (us : List Use) (name : Text) (value : Option Text) → is_used us name ≡ false
    → used_rows name value (map row us) ≡ map row (us ++ (name, value) ∷ [])
new_use us name value e =
    let none : has_row name (map row us) ≡ false = has_row-used us name ∙ e in
    let kept : without name (map row us) ≡ map row us = at_no_row name (λ _. []) [] (map row us) none
    ∙ append-nil (map row us) in
    ap (λ rows. with_values name AsWritten value_source.CommandLine (value_of value ∷ []) rows) kept
    ∙ at_no_row name (more_values value_source.CommandLine (value_of value ∷ [])) (row (name, value) ∷ [])
    (map row us) none
    ∙ sym (map-append row us ((name, value) ∷ []))

-- a use once more is at fault, and a new one adds its row
pub use_is : (us : List Use) (name : Text) (value : Option Text)
    → unless_fault (repeat_fault false name (map row us)) (Some (used_rows name value (map row us))) ≡ option_map
    (map row) (with_use us name value)
use_is us name value = go (is_used us name) refl
  where
    go : (b : Bool) → is_used us name ≡ b
        → unless_fault (repeat_fault false name (map row us)) (Some (used_rows name value (map row us))) ≡ option_map
        (map row) (with_use us name value)
    go true e = rw (has_row-used us name, e) refl
    go false e = rw (has_row-used us name, e) (ap Some (new_use us name value e))

-- ---- the options

-- an option with a value, as the walk sees it
pub record IsValued (name : Text) : Type 0 where
  pub rule : Rule
  pub found : arg_by_long rules name ≡ Some rule
  pub kept : arg_by_id rules name ≡ Some rule
  pub id : rule.id ≡ name
  pub takes : takes_values rule ≡ true
  pub most : most_values rule ≡ 1
  pub fault : (v : Text) (rows : List Row) → use_fault false rule (v ∷ []) rows ≡ repeat_fault false name rows
  pub gives : (v : Text) (rows : List Row) → used rule (v ∷ []) rows ≡ used_rows name (Some v) rows
  pub none : (rows : List Row) → fails (use_fault false rule [] rows) ≡ true
  pub told : takes_value name ≡ true

-- the rule of an option on its name, and what is computed of it
as-valued : (name : Text) (rule : Rule) → arg_by_long rules name ≡ Some rule → arg_by_id rules name ≡ Some rule
    → rule.id ≡ name → takes_values rule ≡ true → most_values rule ≡ 1
    → ((v : Text) (rows : List Row) → use_fault false rule (v ∷ []) rows ≡ or_else (repeat_fault false name rows) [])
    → ((v : Text) (rows : List Row) → used rule (v ∷ []) rows ≡ used_rows name (Some v) rows)
    → ((rows : List Row) → fails (use_fault false rule [] rows) ≡ true) → takes_value name ≡ true → IsValued name
as-valued name rule found kept id takes most fault gives none told = record {
  rule = rule;
  found = found;
  kept = kept;
  id = id;
  takes = takes;
  most = most;
  fault = λ v rows. fault v rows ∙ or_else-nil (repeat_fault false name rows);
  gives = gives;
  none = none;
  told = told;
}

valued_schedule : IsValued (codes "schedule")
valued_schedule = as-valued (codes "schedule") _ refl refl refl refl refl (λ v rows. refl) (λ v rows. refl)
    (λ rows. refl) refl

valued_turns : IsValued (codes "turns")
valued_turns = as-valued (codes "turns") _ refl refl refl refl refl (λ v rows. refl) (λ v rows. refl)
    (λ rows. refl) refl

valued_every : IsValued (codes "every")
valued_every = as-valued (codes "every") _ refl refl refl refl refl (λ v rows. refl) (λ v rows. refl)
    (λ rows. refl) refl

valued_markers : IsValued (codes "markers")
valued_markers = as-valued (codes "markers") _ refl refl refl refl refl (λ v rows. refl) (λ v rows. refl)
    (λ rows. refl) refl

valued_threads : IsValued (codes "threads")
valued_threads = as-valued (codes "threads") _ refl refl refl refl refl (λ v rows. refl) (λ v rows. refl)
    (λ rows. refl) refl

pub valued : (name : Text) → takes_value name ≡ true → IsValued name
valued name e = elim (or_cases (bytes_eq (codes "schedule") name) _ e) [
  | inl is ↦ subst IsValued (same_text (codes "schedule") name is) valued_schedule
  | inr more ↦ elim (or_cases (bytes_eq (codes "turns") name) _ more) [
    | inl is ↦ subst IsValued (same_text (codes "turns") name is) valued_turns
    | inr rest ↦ elim (or_cases (bytes_eq (codes "every") name) _ rest) [
      | inl is ↦ subst IsValued (same_text (codes "every") name is) valued_every
      | inr later ↦ elim (or_cases (bytes_eq (codes "markers") name) _ later) [
        | inl is ↦ subst IsValued (same_text (codes "markers") name is) valued_markers
        | inr last ↦ subst IsValued (same_text (codes "threads") name last) valued_threads
      ]
    ]
  ]
]

-- an option without a value, as the walk sees it
pub record IsFlag (name : Text) : Type 0 where
  pub rule : Rule
  pub found : arg_by_long rules name ≡ Some rule
  pub takes : takes_values rule ≡ false
  pub fault : (rows : List Row) → use_fault false rule [] rows ≡ repeat_fault false name rows
  pub gives : (rows : List Row) → used rule [] rows ≡ used_rows name None rows
  pub untold : takes_value name ≡ false
  pub told : is_flag name ≡ true

as-flag : (name : Text) (rule : Rule) → arg_by_long rules name ≡ Some rule → takes_values rule ≡ false
    → ((rows : List Row) → use_fault false rule [] rows ≡ or_else (repeat_fault false name rows) [])
    → ((rows : List Row) → used rule [] rows ≡ used_rows name None rows) → takes_value name ≡ false
    → is_flag name ≡ true → IsFlag name
as-flag name rule found takes fault gives untold told = record {
  rule = rule;
  found = found;
  takes = takes;
  fault = λ rows. fault rows ∙ or_else-nil (repeat_fault false name rows);
  gives = gives;
  untold = untold;
  told = told;
}

flag_recover : IsFlag (codes "recover")
flag_recover = as-flag (codes "recover") _ refl refl (λ rows. refl) (λ rows. refl) refl refl

flag_why : IsFlag (codes "why")
flag_why = as-flag (codes "why") _ refl refl (λ rows. refl) (λ rows. refl) refl refl

pub flagged : (name : Text) → is_flag name ≡ true → IsFlag name
flagged name e = elim (or_cases (bytes_eq (codes "recover") name) _ e) [
  | inl is ↦ subst IsFlag (same_text (codes "recover") name is) flag_recover
  | inr is ↦ subst IsFlag (same_text (codes "why") name is) flag_why
]

pub unknown : (name : Text) → takes_value name ≡ false → is_flag name ≡ false → arg_by_long rules name ≡ None
unknown name e other =
    let first = or_parts (bytes_eq (codes "schedule") name) _ e in
    let second = or_parts (bytes_eq (codes "turns") name) _ first.1 in
    let third = or_parts (bytes_eq (codes "every") name) _ second.1 in
    let fourth = or_parts (bytes_eq (codes "markers") name) _ third.1 in
    let flags = or_parts (bytes_eq (codes "recover") name) _ other in
    rw (first.0, second.0, third.0, fourth.0, fourth.1, flags.0, flags.1) refl

-- ---- words

-- `--name` and `--name=value` are options, as `clap` sees them
pub option_in-long : (word : Text) → bytes_eq word (45 ∷ 45 ∷ []) ≡ false → option_in word ≡ long_of word
option_in-long [] e = refl
option_in-long (a ∷ []) e = go (a == 45)
  where
    go : (b : Bool) → None ≡ option_and_then long_of_rest (option_and_then (strip_byte 45) (cond b (Some []) None))
    go true = refl
    go false = refl
option_in-long (a ∷ b ∷ []) e = go (a == 45) e
  where
    behind : (q : Bool) → (q && true) ≡ false
        → option_and_then name_behind (cond q (Some []) None) ≡ option_and_then long_of_rest (cond q (Some []) None)
    behind true h = absurd (true≢false h)
    behind false h = refl

    go : (p : Bool) → (p && ((b == 45) && true)) ≡ false
        → option_and_then name_behind (cond (p && (b == 45)) (Some []) None)
        ≡ option_and_then long_of_rest (option_and_then (strip_byte 45) (cond p (Some (b ∷ [])) None))
    go true h = behind (b == 45) h
    go false h = refl
option_in-long (a ∷ b ∷ x ∷ xs) e = go (a == 45)
  where
    behind : (q : Bool) → option_and_then name_behind (cond q (Some (x ∷ xs)) None) ≡ option_and_then long_of_rest
        (cond q (Some (x ∷ xs)) None)
    behind true = refl
    behind false = refl

    go : (p : Bool) → option_and_then name_behind (cond (p && (b == 45)) (Some (x ∷ xs)) None)
        ≡ option_and_then long_of_rest (option_and_then (strip_byte 45) (cond p (Some (b ∷ x ∷ xs)) None))
    go true = behind (b == 45)
    go false = refl

-- a word that is long, short or `--` begins with a hyphen, and is longer
pub long_hyphen : (word : Text) (p : Text × Option Text) → long_of word ≡ Some p → begins_with_hyphen word ≡ true
long_hyphen [] p e = absurd (true≢false (sym (ap is_some e)))
long_hyphen (a ∷ []) p e = go (a == 45) e
  where
    go : (b : Bool) → option_and_then long_of_rest (option_and_then (strip_byte 45) (cond b (Some []) None)) ≡ Some p
        → false ≡ true
    go true h = ap is_some h
    go false h = ap is_some h
long_hyphen (a ∷ x ∷ xs) p e = go (a == 45) e
  where
    go : (b : Bool) → option_and_then long_of_rest (option_and_then (strip_byte 45) (cond b (Some (x ∷ xs)) None))
        ≡ Some p → b ≡ true
    go true h = refl
    go false h = ap is_some h

pub short_hyphen : (word flags : Text) → short_of word ≡ Some flags → begins_with_hyphen word ≡ true
short_hyphen [] flags e = absurd (true≢false (sym (ap is_some e)))
short_hyphen (a ∷ []) flags e = go (a == 45) e
  where
    go : (b : Bool) → option_and_then short_of_rest (cond b (Some []) None) ≡ Some flags → false ≡ true
    go true h = ap is_some h
    go false h = ap is_some h
short_hyphen (a ∷ x ∷ xs) flags e = go (a == 45) e
  where
    go : (b : Bool) → option_and_then short_of_rest (cond b (Some (x ∷ xs)) None) ≡ Some flags → b ≡ true
    go true h = refl
    go false h = ap is_some h

pub plain_hyphen : (word : Text) → bytes_eq word (45 ∷ 45 ∷ []) ≡ false → long_of word ≡ None → short_of word ≡ None
    → begins_with_hyphen word ≡ false
plain_hyphen [] d l s = refl
plain_hyphen (a ∷ []) d l s = refl
plain_hyphen (a ∷ x ∷ []) d l s = go (a == 45) d s
  where
    behind : (q : Bool) → (q && true) ≡ false → cond q None (Some (x ∷ [])) ≡ None → true ≡ false
    behind true h k = h
    behind false h k = ap is_some k

    go : (p : Bool) → (p && ((x == 45) && true)) ≡ false
        → option_and_then short_of_rest (cond p (Some (x ∷ [])) None) ≡ None → p ≡ false
    go true h k = behind (x == 45) h k
    go false h k = refl
plain_hyphen (a ∷ x ∷ y ∷ ys) d l s = go (a == 45) l s
  where
    behind : (q : Bool) → option_and_then long_of_rest (cond q (Some (y ∷ ys)) None) ≡ None
        → cond q None (Some (x ∷ y ∷ ys)) ≡ None → true ≡ false
    behind true h k = ap is_some h
    behind false h k = ap is_some k

    go : (p : Bool) → option_and_then long_of_rest (option_and_then (strip_byte 45) (cond p (Some (x ∷ y ∷ ys)) None))
        ≡ None
        → option_and_then short_of_rest (cond p (Some (x ∷ y ∷ ys)) None) ≡ None → p ≡ false
    go true h k = behind (x == 45) h k
    go false h k = refl

pub dashes_hyphen : (word : Text) → bytes_eq word (45 ∷ 45 ∷ []) ≡ true → begins_with_hyphen word ≡ true
dashes_hyphen word e = ap begins_with_hyphen (same_text word (45 ∷ 45 ∷ []) e)
