-- The arguments of a call fit the function in the source.
-- For: `AreArgumentsOf`, specs/FileLaws.antt; `SourcesAgree`, specs/Agreement.antt; `IsMeant`, specs/Laws.antt.
-- By: cases of a value and its type; induction over lists of parameters, of declarations and of made functions.
use Rattle.std.proofs.Common.{◌≡◌, ℕ, zero, suc, ◌+◌, Bool, true, false, List, [], ◌∷◌, ◌++◌, length, map, Option, Some}
use Rattle.std.proofs.Common.{None, refl, ap, sym, ◌∙◌, subst, slice_get, arith}
use Rattle.std.proofs.lemmas.Bool.{false≢true}
use Rattle.std.proofs.lemmas.List.{length-map}
use Rattle.golf_theory.specs.Membership.{Every}
use Rattle.golf_syntax_trees.specs.declared.declarations.Decl.{Decl}
use Rattle.golf_syntax_trees.specs.declared.declarations.Decl.TheVariants as d
use Rattle.golf_syntax_trees.specs.declared.declarations.Func.{Func}
use Rattle.golf_syntax_trees.specs.declared.declarations.File.{File}
use Rattle.golf_syntax_trees.specs.declared.declarations.Receiver.{Receiver}
use Rattle.golf_data.specs.declared.value.Value.{Value}
use Rattle.golf_check_types.specs.declared.types.GoType.{GoType}
use Rattle.golf_check_types.specs.declared.scopes.FileScope.{FileScope}
use Rattle.golf_check_types.specs.declared.scopes.Scope.{Scope}
use Rattle.golf_check_types.specs.Files.{outside, all_typed_names, receiver_walk, parameter_walk}
use Rattle.golf_check_types.specs.Statements.{behind}
use Rattle.golf_check_types.specs.Statements as W
use Rattle.golf_model_typing.specs.Types.{ValueType, Signature, IsNilable, Types, ValueFits, ValuesFit}
use Rattle.golf_code_of.specs.declared.surroundings.Making.{Making}
use Rattle.golf_code_of.specs.declared.tables.Tables.{Tables}
use Rattle.golf_code_of.specs.Files.{tables_of}
use Rattle.golf_code_shapes.specs.Types.{value_type, known_type, known_types}
use Rattle.golf_code_shapes.specs.Sound.{IsKnown}
use Rattle.golf_code_shapes.specs.FunctionLaws.{result_scope, parameter_slots, function_signature, made_signature}
use Rattle.golf_code_shapes.specs.FileLaws.{entry_signature, own_signatures, ParametersAreKnown, DeclarationsAreKnown}
use Rattle.golf_code_shapes.specs.FileLaws.{NamesFit, scope_of, types_of_file}
use Rattle.golf_code_shapes.proofs.Gets.{some-same}
use Rattle.golf_meaning_statements.specs.Files.{made_in, taking_in}
use Rattle.golf_meaning_source.specs.Operations.{Taking}
use Rattle.golf_meaning_runs.specs.Sound.{is_of, Held}
use Rattle.golf_meaning_runs.specs.TypingLaws.{ArgumentsFit}
use Rattle.golf_meaning_runs.specs.FileLaws.{MadeArguments, ArgumentsAt, AreArgumentsOf}

-- a value of a type has its kind

nilable-kind : (t : ValueType) (v : Value) → IsNilable t → is_of ValueType.Mutex v ≡ true → is_of t v ≡ true
nilable-kind ValueType.Int v h k = absurd h
nilable-kind ValueType.Bool v h k = absurd h
nilable-kind ValueType.Text v h k = absurd h
nilable-kind ValueType.EmptyStruct v h k = absurd h
nilable-kind (ValueType.Struct n) v h k = k
nilable-kind ValueType.Mutex v h k = k
nilable-kind ValueType.Group v h k = k
nilable-kind ValueType.Rw v h k = k
nilable-kind ValueType.Cond v h k = k
nilable-kind (ValueType.Slice e) v h k = k
nilable-kind (ValueType.Chan e) v h k = k

module _ (taking : Taking) (types : Types) (known : List (ℕ × ValueType)) where
  value-kind : (t : ValueType) (v : Value) → ValueFits types known v t → is_of t v ≡ true
  value-kind t (Value.Int n) h = subst (λ u. is_of u (Value.Int n) ≡ true) (sym h) refl
  value-kind t (Value.Bool b) h = subst (λ u. is_of u (Value.Bool b) ≡ true) (sym h) refl
  value-kind t (Value.Text k) h = subst (λ u. is_of u (Value.Text k) ≡ true) (sym h.0) refl
  value-kind t Value.Unit h = subst (λ u. is_of u Value.Unit ≡ true) (sym h) refl
  value-kind t Value.Nil h = nilable-kind t Value.Nil h refl
  value-kind t (Value.Ref o) h = nilable-kind t (Value.Ref o) h.1 refl

  held : (o : Option GoType) (v : Value) → IsKnown o → ValueFits types known v (known_type o) → Held taking o v
  held o v k h = subst (λ z. Held taking z v) (sym k.1)
      (λ strict. value-kind (value_type k.0) v (subst (λ z. ValueFits types known v (known_type z)) k.1 h))

  arguments-held : (os : List (Option GoType)) (vs : List Value) → Every IsKnown os
      → ValuesFit types known vs (known_types os) → ArgumentsFit taking os vs
  arguments-held [] [] k h = tt
  arguments-held [] (v ∷ vs) k h = absurd h
  arguments-held (o ∷ os) [] k h = absurd h
  arguments-held (o ∷ os) (v ∷ vs) k h = (held o v k.0 h.0, arguments-held os vs k.1 h.1)

  as-many : (os : List (Option GoType)) (vs : List Value) → ValuesFit types known vs (known_types os)
      → length vs ≡ length os
  as-many [] [] h = refl
  as-many [] (v ∷ vs) h = absurd h
  as-many (o ∷ os) [] h = absurd h
  as-many (o ∷ os) (v ∷ vs) h = ap suc (as-many os vs h.1)

  none-taken : (vs : List Value) → ValuesFit types known vs [] → vs ≡ []
  none-taken [] h = refl
  none-taken (v ∷ vs) h = absurd h

-- receiver and parameters have types

each-known : (l : ℕ) (ps : List (List ℕ × Option GoType)) (s : Scope)
    → Every (λ (p : List ℕ × Option GoType). IsKnown p.1) ps
    → Every IsKnown (W.in_order (map (parameter_walk l) ps) s).slots
each-known l [] s h = tt
each-known l (p ∷ ps) s h = (h.0, each-known l ps (behind s (parameter_walk l p s)) h.1)

slots-known : (names : FileScope) (f : Func) (m : Option Receiver) → f.receiver ≡ m
    → ParametersAreKnown (outside names) f
    → Every IsKnown ((receiver_walk f.line (outside names) m (result_scope (outside names) f)).slots
    ++ (W.in_order (map (parameter_walk f.line) (all_typed_names (outside names) f.parameters))
    (behind (result_scope (outside names) f)
    (receiver_walk f.line (outside names) m (result_scope (outside names) f)))).slots)
slots-known names f None e h = each-known f.line (all_typed_names (outside names) f.parameters) _ h.parameters
slots-known names f (Some r) e h = (
  h.receiver r e,
  each-known f.line (all_typed_names (outside names) f.parameters) _ h.parameters,
)

-- what is so of the types of a function's parameters makes the arguments fit
module _ (taking : Taking) (vs : List Value) (Given : List ValueType → Type 0)
    (fits : (os : List (Option GoType)) → Every IsKnown os → Given (known_types os) → ArgumentsFit taking os vs)
    (long : (os : List (Option GoType)) → Given (known_types os) → length vs ≡ length os) where
  made-arguments : (ms : List Making) (k : ℕ) (sig : Signature) → slice_get (map made_signature ms) k ≡ Some sig
      → Given sig.params → MadeArguments ms k vs
  made-arguments [] k sig e h = absurd (cc)
  made-arguments (m ∷ ms) zero sig e h =
      long m.parameters (subst Given (ap (λ (s : Signature). s.params) (sym (some-same (made_signature m) sig e))) h)
  made-arguments (m ∷ ms) (suc k) sig e h = made-arguments ms k sig e h

  module _ (t : Tables) (names : FileScope) (made : List Making) where
    pub arguments-at : (g : ℕ) (xs : List Decl) (k : ℕ) (sig : Signature) → DeclarationsAreKnown names g xs
        → slice_get (own_signatures t (outside names) xs ++ map made_signature made) k ≡ Some sig
        → Given sig.params → ArgumentsAt taking (outside names) made xs k vs
    arguments-at g [] k sig known e h = made-arguments made k sig e h
    arguments-at g (d.Func f ∷ xs) zero sig known e h =
        fits (parameter_slots (outside names) f) (slots-known names f f.receiver refl known.0)
        (subst Given (ap (λ (s : Signature). s.params)
        (sym (some-same (function_signature t (outside names) f) sig e))) h)
    arguments-at g (d.Func f ∷ xs) (suc k) sig known e h = arguments-at g xs k sig known.1 e h
    arguments-at g (d.Var v ∷ xs) k sig known e h = arguments-at (g + 1) xs k sig known.1 e h
    arguments-at g (d.Const l x c ∷ xs) k sig known e h = arguments-at g xs k sig known.1 e h
    arguments-at g (d.Struct l x fields ∷ xs) k sig known e h = arguments-at g xs k sig known.1 e h

-- values of the types of the parameters of a function
pub typed-arguments : (file : File) (strict : Bool) (known : List (ℕ × ValueType)) (k : ℕ) (sig : Signature)
    (vs : List Value) → NamesFit (tables_of file.declarations) (scope_of file) file.declarations
    → slice_get (types_of_file file).functions k ≡ Some sig → ValuesFit (types_of_file file) known vs sig.params
    → AreArgumentsOf strict file k vs
typed-arguments file strict known zero sig vs h e fit =
    none-taken (taking_in file strict) (types_of_file file) known vs
    (subst (λ ts. ValuesFit (types_of_file file) known vs ts)
    (ap (λ (s : Signature). s.params) (sym (some-same entry_signature sig e))) fit)
typed-arguments file strict known (suc k) sig vs h e fit =
    let taking = taking_in file strict in
    let types = types_of_file file in
    arguments-at taking vs (λ ts. ValuesFit types known vs ts) (λ os is. arguments-held taking types known os vs is)
    (λ os. as-many taking types known os vs) (tables_of file.declarations) (scope_of file) (made_in file) 0
    file.declarations k sig h.declarations e fit

-- if kinds are not looked at, as many values as parameters

held-any : (file : File) (o : Option GoType) (v : Value) → IsKnown o → Held (taking_in file false) o v
held-any file o v known = subst (λ z. Held (taking_in file false) z v) (sym known.1)
    (λ strict. absurd (false≢true strict))

any-fit : (file : File) (os : List (Option GoType)) (vs : List Value) → Every IsKnown os → length vs ≡ length os
    → ArgumentsFit (taking_in file false) os vs
any-fit file [] [] known e = tt
any-fit file [] (v ∷ vs) known e = absurd (omega (arith, e))
any-fit file (o ∷ os) [] known e = absurd (omega (arith, e))
any-fit file (o ∷ os) (v ∷ vs) known e = (held-any file o v known.0, any-fit file os vs known.1 (omega (arith, e)))

none-many : (vs : List Value) → length vs ≡ 0 → vs ≡ []
none-many [] e = refl
none-many (v ∷ vs) e = absurd (omega (arith, e))

pub any-arguments : (file : File) (k : ℕ) (sig : Signature) (vs : List Value)
    → NamesFit (tables_of file.declarations) (scope_of file) file.declarations
    → slice_get (types_of_file file).functions k ≡ Some sig → length vs ≡ length sig.params
    → AreArgumentsOf false file k vs
any-arguments file zero sig vs h e many =
    none-many vs (many ∙ ap (λ (s : Signature). length s.params) (sym (some-same entry_signature sig e)))
any-arguments file (suc k) sig vs h e many =
    arguments-at (taking_in file false) vs (λ ts. length vs ≡ length ts)
    (λ os known is. any-fit file os vs known (is ∙ length-map os known_type)) (λ os is. is ∙ length-map os known_type)
    (tables_of file.declarations) (scope_of file) (made_in file) 0 file.declarations k sig h.declarations e many
