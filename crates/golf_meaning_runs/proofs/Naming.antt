-- What a name gives is what it is; and what stands as a value gives one.
-- For: `expressions_fit`, src/lib.rt; `value_faults`, golf_check_types/specs/Expressions.antt
-- By: cases of what the name stands for; no induction
use Rattle.std.proofs.Common.{◌≡◌, ℕ, Bool, true, false, cond, List, [], ◌∷◌, Option, Some, None, refl, sym, subst}
use Rattle.std.specs.Option.{option_map}
use Rattle.golf_data.specs.declared.value.Value.{Value}
use Rattle.golf_data.specs.declared.code.Instr.{Instr}
use Rattle.golf_check_types.specs.declared.operands.Operand.{Operand}
use Rattle.golf_check_types.specs.declared.operands.Operand.TheVariants as operand
use Rattle.golf_check_types.specs.declared.operands.Where.TheVariants as place
use Rattle.golf_check_types.specs.declared.locals.Local.{Local}
use Rattle.golf_check_types.specs.declared.scopes.Imports.{Imports}
use Rattle.golf_check_types.specs.declared.scopes.Scope.{Scope}
use Rattle.golf_check_types.specs.Types.{given}
use Rattle.golf_check_types.specs.Names.{is_blank, look}
use Rattle.golf_check_types.specs.Scopes.{or_else, predeclared}
use Rattle.golf_check_types.specs.Scopes.{file_operand, local_operand, meaning}
use Rattle.golf_check_types.specs.Expressions.{Judged, leaf, used, given_by, value_faults, known_name, named}
use Rattle.golf_code_of.specs.declared.tables.Tables.{Tables}
use Rattle.golf_code_of.specs.Values.{constant}
use Rattle.golf_model_typing.specs.Types.{Types}
use Rattle.golf_code_shapes.specs.Types.{base_type}
use Rattle.golf_code_shapes.specs.Sound.{NameFits}
use Rattle.golf_code_shapes.proofs.Typings.{none-left, none-right}
use Rattle.golf_code_shapes.proofs.Chosen.{either, of-predeclared}
use Rattle.golf_meaning_source.specs.Names.{Env, find}
use Rattle.golf_meaning_source.specs.Operations.{Taking, Gives, gives}
use Rattle.golf_meaning_source.specs.Exprs.{Location, outer_place, outer_value, place_of_name, value_of_name, name_does}
use Rattle.golf_meaning_source.specs.ExpressionMeaning.{outer}
use Rattle.golf_meaning_source.proofs.Environments.{last, look-last}
use Rattle.golf_meaning_runs.specs.Sound.{YieldsBy, NamesHaveValues, FileTaken}
use Rattle.golf_meaning_runs.specs.Meets.{Meets}
use Rattle.golf_meaning_runs.proofs.NameValues.{Paired, paired, nil-is, zero-is}
use Rattle.golf_meaning_runs.proofs.Calculus.{yields-visible}
use Rattle.golf_meaning_runs.proofs.Counts.{held-known, placed-local, placed-global}

module _ (taking : Taking) where
  module _ (types : Types) (t : Tables) (s : Scope) (env : Env) where
    abbrev pub Me : Operand → Gives → Location → Gives → Type 0
    Me = Meets taking types t s.locals s.file env

    -- what stands as a value gives one

    pub valued : (l : ℕ) (m : Operand) (v : Gives) (p : Location) (q : Gives) → value_faults l m ≡ [] → Me m v p q
        → YieldsBy taking (given m) v
    valued l (operand.Value (Some e)) v p q none h = h
    valued l (operand.Value None) v p q none h = absurd h
    valued l (operand.Outcome (Some e)) v p q none h = h
    valued l (operand.Outcome None) v p q none h = absurd h
    valued l (operand.Constant k b) v p q none h = h
    valued l (operand.Truth b) v p q none h = h
    valued l (operand.Variable w (Some e)) v p q none h = h.0
    valued l (operand.Variable w None) v p q none h = absurd h
    valued l (operand.Field i (Some e)) v p q none h = h.0
    valued l (operand.Field i None) v p q none h = absurd h
    valued l (operand.Element (Some e)) v p q none h = h.0
    valued l (operand.Element None) v p q none h = absurd h
    valued l operand.Nil v p q none h = h
    valued l operand.Unknown v p q none h = absurd h
    valued l _ v p q none h = cc

    pub of-used : (l : ℕ) (j : Judged) (v : Gives) (p : Location) (q : Gives) → used l j ≡ []
        → (j.faults ≡ [] → Me j.meaning v p q) → YieldsBy taking (given_by j) v
    of-used l j v p q none h = valued l j.meaning v p q (none-right j.faults (value_faults l j.meaning) none)
        (h (none-left j.faults (value_faults l j.meaning) none))

    -- names that are no locals

    abbrev Outer : List ℕ → Operand → Type 0
    Outer n m = Me m (outer_value taking t (Some m)) (outer_place n (Some m)) (gives [])

    module _ (fit : NamesHaveValues taking s.locals env) where
      from-file : (n : List ℕ) (m : Operand) → NameFits types t s.file m → Outer n m
      from-file n (operand.Variable (place.Global g) (Some e)) h =
          (yields-visible taking (Instr.LoadGlobal g) e [] refl (λ k. refl), placed-global taking s.locals env fit g e)
      from-file n (operand.Constant k b) h = λ w strict. zero-is types (constant t k) (base_type b) h
      from-file n (operand.Function k) h = (λ w. refl, h)
      from-file n (operand.Struct k) h = tt
      from-file n _ h = absurd h

      is-predeclared : (i : Imports) (n : List ℕ) (m : Operand) → predeclared i n ≡ Some m → Outer n m
      is-predeclared i n = of-predeclared (Outer n) (record {
        a_type = tt;
        truth = λ b w strict. refl;
        nil = λ u nil w strict. nil-is u nil;
        length = λ w. refl;
        close = λ w. refl;
        panic = λ w. refl;
        of_package = λ q w. refl;
      }) i n

      outer-meets : (n : List ℕ) → FileTaken taking types t s.file → (m : Operand) → outer s n ≡ Some m → Outer n m
      outer-meets n ok = either (Outer n) (file_operand s.file n) (predeclared s.file.imports n)
          (λ m e. from-file n m (ok.fits.names n m e)) (is-predeclared s.file.imports n)

      -- a local, or a name that is none
      name-meets : (l : ℕ) (g : Option ℕ) (n : List ℕ) (a : Option Local) (o : Option Value) (out : Option Operand)
          → last s.locals n ≡ a → find env n ≡ o → Paired taking a o → ((m : Operand) → out ≡ Some m → Outer n m)
          → (known_name l g (or_else (option_map local_operand a) out)).faults ≡ []
          → Me (known_name l g (or_else (option_map local_operand a) out)).meaning (value_of_name taking t o out)
          (place_of_name n o out) (gives [])
      name-meets l g n (Some d) (Some v) out is at h k none =
          let e = held-known taking d.of_type v h in
          subst (λ z. Me (operand.Variable (place.Slot d.slot) z) (gives (v ∷ [])) (Location.Local n) (gives []))
          (sym e.1)
          (λ w. e.2, placed-local taking s.locals env fit n d e.0 v is e.1 at e.2)
      name-meets l g n (Some d) None out is at h k none = absurd h
      name-meets l g n None (Some v) out is at h k none = absurd h
      name-meets l g n None None None is at h k none = cc
      name-meets l g n None None (Some m) is at h k none = k m refl

      pub on-name : (l : ℕ) (n : List ℕ) → FileTaken taking types t s.file → (named l s n).faults ≡ []
          → Me (named l s n).meaning ((name_does taking t (is_blank n) n (outer s n)).value env)
          ((name_does taking t (is_blank n) n (outer s n)).place env)
          ((name_does taking t (is_blank n) n (outer s n)).parts env)
      unfolding meaning
      on-name l n ok = by (is_blank n)
        where
          by : (b : Bool) → (cond b (leaf operand.Blank [])
              (known_name l s.initialises (or_else (option_map local_operand (look s.locals n)) (outer s n)))).faults
              ≡ []
              → Me (cond b (leaf operand.Blank [])
              (known_name l s.initialises (or_else (option_map local_operand (look s.locals n))
              (outer s n)))).meaning (cond b (gives []) (value_of_name taking t (find env n) (outer s n)))
              (cond b Location.Blank (place_of_name n (find env n) (outer s n))) (gives [])
          by true = λ none. (refl, λ w. refl)
          by false =
              subst (λ a. (known_name l s.initialises (or_else (option_map local_operand a) (outer s n))).faults ≡ []
              → Me (known_name l s.initialises (or_else (option_map local_operand a) (outer s n))).meaning
              (value_of_name taking t (find env n) (outer s n)) (place_of_name n (find env n) (outer s n))
              (gives [])) (sym (look-last s.locals n))
              (name-meets l s.initialises n (last s.locals n) (find env n) (outer s n) refl refl
              (paired taking s.locals env n fit) (outer-meets n ok))
