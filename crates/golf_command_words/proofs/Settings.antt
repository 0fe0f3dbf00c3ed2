-- What the rows of a run line say of its settings.
-- For: `parse`, src/command_lines.rt; `run_of`, specs/Words.antt
-- By: induction over the list of uses and over the list of rows
use Rattle.std.proofs.Common.{◌≡◌, ◌∙◌, ◌||◌, ◌++◌, Bool, cond, true, false, refl, sym, ap, ap₂, List, [], ◌∷◌, map}
use Rattle.std.proofs.Common.{drop, Option, Some, None, option_and_then, fold, is_some, find, bytes_eq}
use Rattle.std.proofs.Common.{slice_get, codes, true≢false}
use Rattle.std.specs.List.{AllByRecursion}
use Rattle.std.specs.Option.{option_or}
use Rattle.std.proofs.lemmas.Bool.{or_parts}
use Rattle.std.proofs.lemmas.List.Folds.{find-append}
use Rattle.clap.specs.Walk.{Row, first_of, has_row, more_values, with_default, with_values}
use Rattle.clap.specs.declared.parser.matches.ValueSource.TheVariants.{DefaultValue}
use Rattle.clap.specs.declared.builder.value_parser.Reading.TheVariants.{AsWritten}
use Rattle.golf_command_words.specs.Values.{Text, most_choices}
use Rattle.golf_command_words.specs.Words.{Use, any_used, by_uses, is_used, run_by_threads, run_by_values, run_of}
use Rattle.golf_command_words.specs.Words.{takes_value, threads_by, value_in}
use Rattle.golf_command_words.specs.ClapCommands.{by_rows, is_true, run_by, with_threads}
use Rattle.golf_command_words.proofs.Runs.{at_no_row, has_row-used, row, rules, same_text, value_of}

-- a use has a value if its option takes one
abbrev pub IsTold : Use → Type 0
IsTold u = is_some u.1 ≡ takes_value u.0

abbrev by_default : Text → Row
by_default flag = record {
  id = flag;
  values = codes "false" ∷ [];
  count = None;
  source = Some DefaultValue;
  reading = AsWritten;
}

-- an option without a value has its default if it was not used
abbrev with_flag : Text → List Row → List Row
with_flag flag rows = cond (has_row flag rows) rows (with_values flag AsWritten DefaultValue (codes "false" ∷ []) rows)

abbrev with_flags : List Row → List Row
with_flags rows = with_flag (codes "why") (with_flag (codes "recover") rows)

kept : (b : Bool) (rows : List Row) → cond b rows rows ≡ rows
kept true rows = refl
kept false rows = refl

defaults_are : (rows : List Row) → fold with_default rows rules ≡ with_flags rows
defaults_are rows =
    ap (λ (r : List Row). fold with_default r (drop 1 rules)) (kept (has_row (codes "schedule") rows) rows)
    ∙ ap (λ (r : List Row). fold with_default r (drop 2 rules)) (kept (has_row (codes "turns") rows) rows)
    ∙ ap (λ (r : List Row). fold with_default r (drop 3 rules)) (kept (has_row (codes "every") rows) rows)
    ∙ ap (λ (r : List Row). fold with_default r (drop 4 rules)) (kept (has_row (codes "markers") rows) rows)
    ∙ ap (λ (r : List Row). fold with_default r (drop 5 rules)) (kept (has_row (codes "threads") rows) rows)

-- ---- what was found for an option

told_value : (value : Option Text) → is_some value ≡ true → Some (value_of value) ≡ value
told_value None e = absurd (true≢false (sym e))
told_value (Some text) e = refl

untold_value : (value : Option Text) → is_some value ≡ false → bytes_eq (value_of value) (codes "true") ≡ true
untold_value None e = refl
untold_value (Some text) e = absurd (true≢false e)

found_value : (us : List Use) (name : Text) → AllByRecursion IsTold us → takes_value name ≡ true
    → first_of name (map row us) ≡ value_in us name
found_value [] name told takes = refl
found_value (u ∷ us) name told takes = go (bytes_eq u.0 name) refl (found_value us name told.1 takes)
  where
    go : (b : Bool) → bytes_eq u.0 name ≡ b → first_of name (map row us) ≡ value_in us name
        → option_and_then (λ (r : Row). slice_get r.values 0)
        (cond b (Some (row u)) (find (λ (r : Row). bytes_eq r.id name) (map row us)))
        ≡ option_and_then (λ (v : Use). v.1) (cond b (Some u) (find (λ (v : Use). bytes_eq v.0 name) us))
    go true e more = told_value u.1 (told.0 ∙ ap takes_value (same_text u.0 name e) ∙ takes)
    go false e more = more

found_flag : (us : List Use) (flag : Text) → takes_value flag ≡ false → AllByRecursion IsTold us
    → is_true (first_of flag (map row us)) ≡ is_used us flag
found_flag [] flag takes told = refl
found_flag (u ∷ us) flag takes told = go (bytes_eq u.0 flag) refl (found_flag us flag takes told.1)
  where
    go : (b : Bool) → bytes_eq u.0 flag ≡ b → is_true (first_of flag (map row us)) ≡ is_used us flag
        → is_true (option_and_then (λ (r : Row). slice_get r.values 0)
        (cond b (Some (row u)) (find (λ (r : Row). bytes_eq r.id flag) (map row us))))
        ≡ (b || is_used us flag)
    go true e more = untold_value u.1 (told.0 ∙ ap takes_value (same_text u.0 flag e) ∙ takes)
    go false e more = more

none_found : (id : Text) (rows : List Row) → has_row id rows ≡ false → find (λ (r : Row). bytes_eq r.id id) rows ≡ None
none_found id [] e = refl
none_found id (r ∷ rs) e =
    let parts = or_parts (bytes_eq r.id id) (has_row id rs) e in
    ap (λ b. cond b (Some r) (find (λ (x : Row). bytes_eq x.id id) rs)) parts.0 ∙ none_found id rs parts.1

or_none : (o : Option Row) → option_or o None ≡ o
or_none None = refl
or_none (Some r) = refl

added : (flag : Text) (rows : List Row) → has_row flag rows ≡ false
    → with_values flag AsWritten DefaultValue (codes "false" ∷ []) rows ≡ rows ++ by_default flag ∷ []
added flag rows e = at_no_row flag (more_values DefaultValue (codes "false" ∷ [])) (by_default flag ∷ []) rows e

-- the default of an option is no row of another one
other_first : (flag id : Text) (rows : List Row) → bytes_eq flag id ≡ false
    → first_of id (with_flag flag rows) ≡ first_of id rows
other_first flag id rows other = go (has_row flag rows) refl
  where
    go : (b : Bool) → has_row flag rows ≡ b
        → first_of id (cond b rows (with_values flag AsWritten DefaultValue (codes "false" ∷ []) rows))
        ≡ first_of id rows
    go true e = refl
    go false e =
        let last : option_or (find (λ (r : Row). bytes_eq r.id id) rows)
        (find (λ (r : Row). bytes_eq r.id id) (by_default flag ∷ [])) ≡ find (λ (r : Row). bytes_eq r.id id) rows
        = ap (λ b. option_or (find (λ (r : Row). bytes_eq r.id id) rows) (cond b (Some (by_default flag)) None)) other
        ∙ or_none (find (λ (r : Row). bytes_eq r.id id) rows) in
        ap (first_of id) (added flag rows e)
        ∙ ap (option_and_then (λ (r : Row). slice_get r.values 0))
        (find-append (λ (r : Row). bytes_eq r.id id) rows (by_default flag ∷ []) ∙ last)

has_last : (id : Text) (rows : List Row) (last : Row) → bytes_eq last.id id ≡ false
    → has_row id (rows ++ last ∷ []) ≡ has_row id rows
has_last id [] last e = ap (λ b. b || false) e
has_last id (r ∷ rs) last e = ap (λ b. bytes_eq r.id id || b) (has_last id rs last e)

other_has : (flag id : Text) (rows : List Row) → bytes_eq flag id ≡ false
    → has_row id (with_flag flag rows) ≡ has_row id rows
other_has flag id rows other = go (has_row flag rows) refl
  where
    go : (b : Bool) → has_row flag rows ≡ b
        → has_row id (cond b rows (with_values flag AsWritten DefaultValue (codes "false" ∷ []) rows)) ≡ has_row id rows
    go true e = refl
    go false e = ap (has_row id) (added flag rows e) ∙ has_last id rows (by_default flag) other

-- what is found for an option without a value: whether it was used
flag_first : (flag : Text) (rows : List Row) (used : Bool) → bytes_eq flag flag ≡ true → has_row flag rows ≡ used
    → is_true (first_of flag rows) ≡ used → is_true (first_of flag (with_flag flag rows)) ≡ used
flag_first flag rows true self has found =
    ap (λ b. is_true (first_of flag (cond b rows (with_values flag AsWritten DefaultValue (codes "false" ∷ []) rows))))
    has ∙ found
flag_first flag rows false self has found =
    ap (λ b. is_true (first_of flag (cond b rows (with_values flag AsWritten DefaultValue (codes "false" ∷ []) rows))))
    has
    ∙ ap (λ rs. is_true (first_of flag rs)) (added flag rows has)
    ∙ ap (λ o. is_true (option_and_then (λ (r : Row). slice_get r.values 0) o))
    (find-append (λ (r : Row). bytes_eq r.id flag) rows (by_default flag ∷ [])
    ∙ ap₂ (λ o b. option_or o (cond b (Some (by_default flag)) None)) (none_found flag rows has) self)

-- ---- the line

-- what the rows of uses have
module _ (us : List Use) (told : AllByRecursion IsTold us) where
  abbrev rows_of_uses : List Row
  rows_of_uses = with_flags (map row us)

  value : (name : Text) → takes_value name ≡ true → bytes_eq (codes "recover") name ≡ false
      → bytes_eq (codes "why") name ≡ false → first_of name rows_of_uses ≡ value_in us name
  value name takes other another =
      other_first (codes "why") name (with_flag (codes "recover") (map row us)) another
      ∙ other_first (codes "recover") name (map row us) other ∙ found_value us name told takes

  recover_is : is_true (first_of (codes "recover") rows_of_uses) ≡ is_used us (codes "recover")
  recover_is =
      ap is_true (other_first (codes "why") (codes "recover") (with_flag (codes "recover") (map row us)) refl)
      ∙ flag_first (codes "recover") (map row us) (is_used us (codes "recover")) refl
      (has_row-used us (codes "recover")) (found_flag us (codes "recover") refl told)

  why_is : is_true (first_of (codes "why") rows_of_uses) ≡ is_used us (codes "why")
  why_is =
      flag_first (codes "why") (with_flag (codes "recover") (map row us)) (is_used us (codes "why")) refl
      (other_has (codes "recover") (codes "why") (map row us) refl ∙ has_row-used us (codes "why"))
      (ap is_true (other_first (codes "recover") (codes "why") (map row us) refl)
      ∙ found_flag us (codes "why") refl told)

  -- what is made of the rows is made of the uses
  uses_are : {X : Type 0} (f : Option Text → Option Text → Option Text → Option Text → Bool → Bool → X)
      → by_rows f rows_of_uses ≡ by_uses f us
  uses_are f =
      let rows = rows_of_uses in
      let recover = is_true (first_of (codes "recover") rows) in
      let why = is_true (first_of (codes "why") rows) in
      ap₂ (λ s t. f s t (first_of (codes "every") rows) (first_of (codes "markers") rows) recover why)
      (value (codes "schedule") refl refl refl) (value (codes "turns") refl refl refl)
      ∙ ap₂ (λ e m. f (value_in us (codes "schedule")) (value_in us (codes "turns")) e m recover why)
      (value (codes "every") refl refl refl) (value (codes "markers") refl refl refl)
      ∙ ap₂ (λ b c. f (value_in us (codes "schedule")) (value_in us (codes "turns")) (value_in us (codes "every"))
      (value_in us (codes "markers")) b c) recover_is why_is

  threads_are : (threads : Option Text) → with_threads most_choices threads rows_of_uses ≡ run_by_threads threads us
  threads_are None = uses_are (run_by_values most_choices)
  threads_are (Some text) = ap (λ b. threads_by b text) (uses_are any_used)

-- the rows of uses give the line of the uses
pub run_is : (us : List Use) → AllByRecursion IsTold us
    → run_by most_choices (fold with_default (map row us) rules) ≡ run_of us
run_is us told =
    ap (run_by most_choices) (defaults_are (map row us))
    ∙ ap (λ o. with_threads most_choices o (with_flags (map row us))) (value us told (codes "threads") refl refl refl)
    ∙ threads_are us told (value_in us (codes "threads"))
