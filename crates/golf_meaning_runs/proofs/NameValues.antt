-- A name that stands as a value gives one value of its type.
-- For: `names_give`, src/lib.rt
-- By: induction over the list of locals; cases of what a name stands for
use Rattle.std.proofs.Common.{◌≡◌, ℕ, Bool, true, false, cond, List, [], ◌∷◌, Option, Some, None, refl, sym, subst}
use Rattle.std.specs.Option.{option_map}
use Rattle.std.specs.Str.{bytes_eq}
use Rattle.golf_data.specs.declared.value.Value.{Value}
use Rattle.golf_data.specs.declared.code.Instr.{Instr}
use Rattle.golf_model.specs.Values.{zero_of}
use Rattle.golf_check_types.specs.declared.types.GoType.{GoType}
use Rattle.golf_check_types.specs.declared.operands.Operand.{Operand}
use Rattle.golf_check_types.specs.declared.operands.Operand.TheVariants as operand
use Rattle.golf_check_types.specs.declared.operands.Where.TheVariants as place
use Rattle.golf_check_types.specs.declared.locals.Local.{Local}
use Rattle.golf_check_types.specs.declared.scopes.Imports.{Imports}
use Rattle.golf_check_types.specs.declared.scopes.FileScope.{FileScope}
use Rattle.golf_check_types.specs.declared.scopes.Scope.{Scope}
use Rattle.golf_check_types.specs.Names.{is_blank, look}
use Rattle.golf_check_types.specs.Types.{given, given_type}
use Rattle.golf_check_types.specs.Scopes.{or_else, predeclared}
use Rattle.golf_check_types.specs.Scopes.{file_operand, local_operand, meaning}
use Rattle.golf_check_types.specs.Expressions.{leaf, used, given_by, value_faults, known_name}
use Rattle.golf_code_of.specs.declared.tables.Tables.{Tables}
use Rattle.golf_code_of.specs.Values.{constant}
use Rattle.golf_model_typing.specs.Types.{ValueType, IsNilable, Types, ValueFits}
use Rattle.golf_code_shapes.specs.Types.{base_type}
use Rattle.golf_code_shapes.specs.Sound.{NameFits}
use Rattle.golf_code_shapes.proofs.Chosen.{either, of-predeclared}
use Rattle.golf_meaning_source.specs.Names.{Env, find, first_some, here}
use Rattle.golf_meaning_source.specs.Operations.{Taking, gives}
use Rattle.golf_meaning_source.specs.Exprs.{outer_value, value_of_name}
use Rattle.golf_meaning_source.specs.ExpressionMeaning.{outer}
use Rattle.golf_meaning_source.proofs.Environments.{last, look-last}
use Rattle.golf_meaning_runs.specs.Sound.{is_of, YieldsBy, Held, NamesHaveValues, FileTaken}
use Rattle.golf_meaning_runs.specs.TypingLaws.{NamesGive}
use Rattle.golf_meaning_runs.proofs.Calculus.{yields-visible}

pub nil-is : (u : ValueType) → IsNilable u → is_of u Value.Nil ≡ true
nil-is (ValueType.Struct k) h = refl
nil-is ValueType.Mutex h = refl
nil-is ValueType.Group h = refl
nil-is ValueType.Rw h = refl
nil-is ValueType.Cond h = refl
nil-is (ValueType.Slice e) h = refl
nil-is (ValueType.Chan e) h = refl
nil-is _ h = absurd h

pub zero-is : (types : Types) (v : Value) (u : ValueType) → ValueFits types [] v u → is_of u (zero_of v) ≡ true
zero-is types (Value.Int n) u h = subst (λ z. is_of z (Value.Int n) ≡ true) (sym h) refl
zero-is types (Value.Bool b) u h = subst (λ z. is_of z (Value.Bool b) ≡ true) (sym h) refl
zero-is types (Value.Text k) u h = subst (λ z. is_of z (Value.Text k) ≡ true) (sym h.0) refl
zero-is types Value.Unit u h = subst (λ z. is_of z Value.Unit ≡ true) (sym h) refl
zero-is types Value.Nil u h = nil-is u h
zero-is types (Value.Ref o) u h = nil-is u h.1

module _ (taking : Taking) where
  -- the last local and the last value of a name go together

  abbrev pub Paired : Option Local → Option Value → Type 0
  Paired None None = Unit {0}
  Paired None (Some v) = ⊥
  Paired (Some d) None = ⊥
  Paired (Some d) (Some v) = Held taking d.of_type v

  one-paired : (b : Bool) (d : Local) (v : Value) (a : Option Local) (o : Option Value) → Held taking d.of_type v
      → Paired a o → Paired (first_some a (here b d)) (first_some o (here b v))
  one-paired true d v None None e h = e
  one-paired false d v None None e h = tt
  one-paired b d v None (Some y) e h = absurd h
  one-paired b d v (Some x) None e h = absurd h
  one-paired b d v (Some x) (Some y) e h = h

  pub paired : (ds : List Local) (env : Env) (n : List ℕ) → NamesHaveValues taking ds env
      → Paired (last ds n) (find env n)
  paired [] [] n h = tt
  paired [] (x ∷ xs) n h = absurd h
  paired (d ∷ ds) [] n h = absurd h
  paired (d ∷ ds) (x ∷ xs) n h =
      subst (λ m. Paired (first_some (last ds n) (here (bytes_eq n d.name) d))
      (first_some (find xs n) (here (bytes_eq n m) x.value))) (sym h.0)
      (one-paired (bytes_eq n d.name) d x.value (last ds n) (find xs n) h.1 (paired ds xs n h.2))

  -- values of tables

  module _ (types : Types) (t : Tables) (l : ℕ) where
    -- a name that is no local gives a value, if it stands as one
    abbrev Outer : Operand → Type 0
    Outer m = value_faults l m ≡ [] → YieldsBy taking (given m) (outer_value taking t (Some m))

    from-file : (f : FileScope) (m : Operand) → NameFits types t f m → Outer m
    from-file f (operand.Variable (place.Global g) (Some e)) h none =
        yields-visible taking (Instr.LoadGlobal g) e [] refl (λ k. refl)
    from-file f (operand.Constant k b) h none = λ w strict. zero-is types (constant t k) (base_type b) h
    from-file f (operand.Function k) h none = cc
    from-file f (operand.Struct k) h none = cc
    from-file f _ h none = absurd h

    is-predeclared : (i : Imports) (n : List ℕ) (m : Operand) → predeclared i n ≡ Some m → Outer m
    is-predeclared = of-predeclared Outer (record {
      a_type = λ none. cc;
      truth = λ b none w strict. refl;
      nil = λ none u nil w strict. nil-is u nil;
      length = λ none. cc;
      close = λ none. cc;
      panic = λ none. cc;
      of_package = λ q none. cc;
    })

    outer-gives : (s : Scope) (n : List ℕ) → FileTaken taking types t s.file → (m : Operand) → outer s n ≡ Some m
        → Outer m
    outer-gives s n ok = either Outer (file_operand s.file n) (predeclared s.file.imports n)
        (λ m e. from-file s.file m (ok.fits.names n m e)) (is-predeclared s.file.imports n)

    held-gives : (o : Option GoType) (v : Value) → Held taking o v → YieldsBy taking (given_type o) (gives (v ∷ []))
    held-gives None v h = absurd h
    held-gives (Some e) v h = λ w. h

    -- a local, or a name that is none
    name-gives : (g : Option ℕ) (a : Option Local) (o : Option Value) (out : Option Operand) → Paired a o
        → ((m : Operand) → out ≡ Some m → Outer m)
        → used l (known_name l g (or_else (option_map local_operand a) out)) ≡ []
        → YieldsBy taking (given_by (known_name l g (or_else (option_map local_operand a) out)))
        (value_of_name taking t o out)
    name-gives g (Some d) (Some v) out h k none = held-gives d.of_type v h
    name-gives g (Some d) None out h k none = absurd h
    name-gives g None (Some v) out h k none = absurd h
    name-gives g None None None h k none = cc
    name-gives g None None (Some m) h k none =
        k m refl (Rattle.golf_code_shapes.proofs.Typings.none-right _ (value_faults l m) none)

  pub names-give : NamesGive taking
  unfolding meaning
  names-give types t l s env n ok fit = by (is_blank n)
    where
      by : (b : Bool) → used l (cond b (leaf operand.Blank [])
          (known_name l s.initialises (or_else (option_map local_operand (look s.locals n)) (outer s n)))) ≡ []
          → YieldsBy taking (given_by (cond b (leaf operand.Blank [])
          (known_name l s.initialises (or_else (option_map local_operand (look s.locals n)) (outer s n)))))
          (cond b (gives []) (value_of_name taking t (find env n) (outer s n)))
      by true = λ none. cc
      by false =
          subst (λ a. used l (known_name l s.initialises (or_else (option_map local_operand a) (outer s n))) ≡ []
          → YieldsBy taking (given_by (known_name l s.initialises
          (or_else (option_map local_operand a) (outer s n)))) (value_of_name taking t (find env n) (outer s n)))
          (sym (look-last s.locals n))
          (name-gives types t l s.initialises (last s.locals n) (find env n) (outer s n) (paired s.locals env n fit)
          (outer-gives types t l s n ok))
