-- The code of names has shapes, and so has what an expression gives as a value.
-- For: `expressions_fit`, src/lib.rt; `NameFits` and `PushesGiven`, specs/Sound.antt
-- By: induction over the list of local names; cases of what a name means
use Rattle.std.proofs.Common.{◌≡◌, ◌⊎◌, inr, ℕ, ◌+◌, Bool, true, false, cond, List, [], ◌∷◌, Option, Some, None, refl}
use Rattle.std.proofs.Common.{sym, subst, slice_get}
use Rattle.std.specs.Option.{option_map}
use Rattle.std.specs.Str.{bytes_eq}
use Rattle.golf_theory.specs.Membership.{In, Every}
use Rattle.golf_data.specs.declared.value.Value.{Value}
use Rattle.golf_data.specs.declared.code.Instr.{Instr}
use Rattle.golf_check_types.specs.declared.types.Base.{Base}
use Rattle.golf_check_types.specs.declared.types.GoType.{GoType}
use Rattle.golf_check_types.specs.declared.operands.Where.TheVariants as place
use Rattle.golf_check_types.specs.declared.operands.Operand.{Operand}
use Rattle.golf_check_types.specs.declared.operands.Operand.TheVariants as operand
use Rattle.golf_check_types.specs.declared.operands.Given.{Given}
use Rattle.golf_check_types.specs.declared.operands.Given.TheVariants as given_as
use Rattle.golf_check_types.specs.declared.locals.Local.{Local}
use Rattle.golf_check_types.specs.declared.scopes.Imports.{Imports}
use Rattle.golf_check_types.specs.declared.scopes.Scope.{Scope}
use Rattle.golf_check_types.specs.Types.{given, has_base, has_layer, is_slice, is_any, gives, takes, element}
use Rattle.golf_check_types.specs.Types.{assignable, type_of}
use Rattle.golf_check_types.specs.Names.{look_from, look, is_blank}
use Rattle.golf_check_types.specs.Scopes.{predeclared}
use Rattle.golf_check_types.specs.Scopes.{local_operand, file_operand, meaning}
use Rattle.golf_check_types.specs.Expressions.{Judged, value_faults, used, given_by, leaf, known_name, named}
use Rattle.golf_check_types.specs.Statements.{is_place}
use Rattle.golf_model_typing.specs.Types.{ValueType, FunctionTypes, Types, ValueFits}
use Rattle.golf_model_typing.specs.Shapes.{slot_types}
use Rattle.golf_code_layout.specs.Piece.{Piece, op}
use Rattle.golf_code_shapes.specs.Has.{shape, filled, To}
use Rattle.golf_code_shapes.proofs.Pieces.{has-empty}
use Rattle.golf_code_of.specs.declared.tables.Tables.{Tables}
use Rattle.golf_code_of.specs.Values.{push, constant}
use Rattle.golf_code_of.specs.Expressions.{Made, in_place, variable, name}
use Rattle.golf_code_of.specs.Calls.{receiver_base}
use Rattle.golf_code_shapes.specs.Types.{base_type, value_type}
use Rattle.golf_code_shapes.specs.Sound.{NameFits, LocalFits, ScopeFits, Callee, TurnsOperands, Pushes, PlaceOf}
use Rattle.golf_code_shapes.specs.Sound.{PushesReceiver}
use Rattle.golf_code_shapes.specs.Sound.{Shown, PushesGiven}
use Rattle.golf_code_shapes.proofs.Typings.{none-right, assigned-value}
use Rattle.golf_code_shapes.proofs.Typings.{measured}
use Rattle.golf_code_shapes.proofs.Turning.{turn-op, turn-none, one-turn}
use Rattle.golf_code_shapes.proofs.Givens as by
use Rattle.golf_code_shapes.proofs.Chosen.{either, of-predeclared}

module _ (types : Types) (t : Tables) (ft : FunctionTypes) (A : List ℕ) (s : Scope) where
  abbrev pub Shows : Operand → Made → Type 0
  Shows = Shown types t ft A s.file

  abbrev pub GivesBy : Given → Piece → Type 0
  GivesBy = PushesGiven types t ft A s.file

  abbrev pub Push : Piece → ValueType → Type 0
  Push = Pushes types ft A

  -- values

  pub valued : (l : ℕ) (m : Operand) (x : Made) → value_faults l m ≡ [] → Shows m x → GivesBy (given m) x.piece
  valued l (operand.Value (Some e)) x none h = h
  valued l (operand.Value None) x none h = absurd h
  valued l (operand.Outcome (Some e)) x none h = h
  valued l (operand.Outcome None) x none h = absurd h
  valued l (operand.Constant k b) x none h = h
  valued l (operand.Truth b) x none h = h
  valued l (operand.Variable w (Some e)) x none h = h.0
  valued l (operand.Variable w None) x none h = absurd h
  valued l (operand.Field i (Some e)) x none h = h.0
  valued l (operand.Field i None) x none h = absurd h
  valued l (operand.Element (Some e)) x none h = h.0
  valued l (operand.Element None) x none h = absurd h
  valued l operand.Nil x none h = h
  valued l operand.Unknown x none h = absurd h
  valued l _ x none h = cc

  pub of-used : (l : ℕ) (j : Judged) (x : Made) → used l j ≡ [] → Shows j.meaning x → GivesBy (given_by j) x.piece
  of-used l j x none h = valued l j.meaning x (none-right j.faults (value_faults l j.meaning) none) h

  -- tests of values

  pub based : (b : Base) (g : Given) (p : Piece) → has_base b g ≡ true → GivesBy g p → Push p (base_type b)
  based b g p = by.based (Push p) b g

  pub given-to : (g : Given) (e : GoType) (p : Piece) → assignable g (Some e) ≡ true → GivesBy g p
      → Push p (value_type e)
  given-to g e p = by.assigned (Push p) g e

  pub of-giving : (g : Given) (p : Piece) → has_layer gives g ≡ true → GivesBy g p → (e : GoType) × (element g ≡ Some e)
      × Push p (ValueType.Chan (value_type e))
  of-giving g p = by.giving (Push p) g

  pub of-taking : (g : Given) (p : Piece) → has_layer takes g ≡ true → GivesBy g p → (e : GoType) × (element g ≡ Some e)
      × Push p (ValueType.Chan (value_type e))
  of-taking g p = by.taking (Push p) g

  pub of-slice : (g : Given) (p : Piece) → has_layer is_slice g ≡ true → GivesBy g p → (e : GoType)
      × (element g ≡ Some e) × Push p (ValueType.Slice (value_type e))
  of-slice g p = by.sliced (Push p) g

  pub of-measured : (g : Given) (p : Piece) → has_layer is_any g ≡ true → GivesBy g p → (u e : ValueType)
      × ((u ≡ ValueType.Slice e) ⊎ (u ≡ ValueType.Chan e)) × Push p u
  of-measured (given_as.Typed a) p fits h = let c = measured a.layers a.base fits in (value_type a, c.0, c.1, h)
  of-measured given_as.Nil p fits h = cc
  of-measured given_as.Unknown p fits h = absurd h

  -- some type or other
  pub some-type : (g : Given) (p : Piece) → GivesBy g p → (e : ValueType) × Push p e
  some-type (given_as.Typed a) p h = (value_type a, h)
  some-type given_as.Nil p h = (ValueType.Mutex, h ValueType.Mutex tt)
  some-type given_as.Unknown p h = absurd h

  -- values that are pushed

  pub push-fits : (l : ℕ) (v : Value) (e : ValueType) → ValueFits types [] v e → Push (op l (push v)) e
  push-fits l (Value.Int n) e h = turn-op types ft A (Instr.Int n) l [] (e ∷ [])
      (λ full k ops g. (ops, refl, subst (λ z. To (filled ft full) (shape (z ∷ ops) A) (k + 1)) h g))
  push-fits l (Value.Bool b) e h = turn-op types ft A (Instr.Bool b) l [] (e ∷ [])
      (λ full k ops g. (ops, refl, subst (λ z. To (filled ft full) (shape (z ∷ ops) A) (k + 1)) h g))
  push-fits l (Value.Text k) e h = turn-op types ft A (Instr.Text k) l [] (e ∷ [])
      (λ full j ops g. (h.1, (ops, refl, subst (λ z. To (filled ft full) (shape (z ∷ ops) A) (j + 1)) h.0 g)))
  push-fits l Value.Unit e h = turn-op types ft A Instr.Unit l [] (e ∷ [])
      (λ full k ops g. (ops, refl, subst (λ z. To (filled ft full) (shape (z ∷ ops) A) (k + 1)) h g))
  push-fits l Value.Nil e h = turn-op types ft A Instr.Nil l [] (e ∷ []) (λ full k ops g. (e, h, (ops, refl, g)))
  push-fits l (Value.Ref o) e h = let none = h.0 in cc

  -- names

  abbrev pub Named : Operand → Type 0
  Named (operand.Variable (place.Slot i) (Some e)) = In i A × (slice_get (slot_types ft) i ≡ Some (value_type e))
  Named (operand.Variable (place.Global g) (Some e)) = slice_get types.globals g ≡ Some (value_type e)
  Named (operand.Constant k b) = ValueFits types [] (constant t k) (base_type b)
  Named (operand.Function k) = Callee types t s.file k []
  Named (operand.Struct k) = (ts : List ValueType) × (slice_get types.structs k ≡ Some ts)
  Named (operand.Truth b) = Unit {0}
  Named operand.Nil = Unit {0}
  Named operand.TypeName = Unit {0}
  Named (operand.Package p) = Unit {0}
  Named (operand.BuiltIn b) = receiver_base b ≡ None
  Named _ = ⊥

  from-file : (m : Operand) → NameFits types t s.file m → Named m
  from-file (operand.Variable (place.Global g) (Some e)) h = h
  from-file (operand.Constant k b) h = h
  from-file (operand.Function k) h = h
  from-file (operand.Struct k) h = h
  from-file _ h = absurd h

  from-local : (d : Local) → LocalFits types t ft A d → Named (local_operand d)
  from-local d h = subst (λ o. Named (operand.Variable (place.Slot d.slot) o)) (sym h.1) (h.2, h.3)

  looked : (ds : List Local) (n : List ℕ) (found : Option Local)
      → ((d : Local) → found ≡ Some d → LocalFits types t ft A d) → Every (LocalFits types t ft A) ds → (d : Local)
      → look_from found ds n ≡ Some d → LocalFits types t ft A d
  looked [] n found k h d e = k d e
  looked (x ∷ xs) n found k h d e = looked xs n (cond (bytes_eq n x.name) (Some x) found)
      (one (bytes_eq n x.name)) h.1 d e
    where
      one : (b : Bool) (y : Local) → cond b (Some x) found ≡ Some y → LocalFits types t ft A y
      one true y q = let same : x ≡ y = cc in subst (LocalFits types t ft A) same h.0
      one false y q = k y q

  pub looked-up : (ds : List Local) (n : List ℕ) → Every (LocalFits types t ft A) ds → (d : Local) → look ds n ≡ Some d
      → LocalFits types t ft A d
  looked-up ds n h d e = looked ds n None (λ x q. cc) h d e

  is-predeclared : (i : Imports) (n : List ℕ) (m : Operand) → predeclared i n ≡ Some m → Named m
  is-predeclared = of-predeclared Named (record {
    a_type = tt;
    truth = λ b. tt;
    nil = tt;
    length = refl;
    close = refl;
    panic = refl;
    of_package = λ q. tt;
  })

  local-name : (o : Option Local) → ((d : Local) → o ≡ Some d → LocalFits types t ft A d) → (m : Operand)
      → option_map local_operand o ≡ Some m → Named m
  local-name None h m e = cc
  local-name (Some d) h m e = let same : local_operand d ≡ m = cc in subst Named same (from-local d (h d refl))

  -- what a name means
  pub name-means : (n : List ℕ) → ScopeFits types t ft A s → (m : Operand) → meaning s n ≡ Some m → Named m
  unfolding meaning
  name-means n ok = either Named (option_map local_operand (look s.locals n)) _
      (local-name (look s.locals n) (looked s.locals n None (λ d e. cc) ok.locals))
      (either Named (file_operand s.file n) (predeclared s.file.imports n) (λ m e. from-file m (ok.file.names n m e))
      (is-predeclared s.file.imports n))

  wider : (i : ℕ) (B : List ℕ) → Every (λ j. In j A) B → Every (λ j. In j (i ∷ A)) B
  wider i [] h = tt
  wider i (b ∷ bs) h = (inr h.0, wider i bs h.1)

  -- a slot that is assigned is assigned anew
  slot-store : (l i : ℕ) (e : ValueType) → slice_get (slot_types ft) i ≡ Some e
      → TurnsOperands types ft A (op l (Instr.Store i)) (e ∷ []) []
  slot-store l i e typed = turn-op types ft A (Instr.Store i) l (e ∷ []) []
      (λ full k ops g. (e, ops, typed, refl, (g.0, g.1, g.2, wider i g.0.assigned g.3)))

  global-store : (l g : ℕ) (e : ValueType) → slice_get types.globals g ≡ Some e
      → TurnsOperands types ft A (op l (Instr.StoreGlobal g)) (e ∷ []) []
  global-store l g e typed = turn-op types ft A (Instr.StoreGlobal g) l (e ∷ []) []
      (λ full k ops m. (e, typed, (ops, refl, m)))

  -- a place that one instruction loads and one stores
  at-once : (e : ValueType) (load store : Piece) → TurnsOperands types ft A load [] (e ∷ [])
      → TurnsOperands types ft A store (e ∷ []) [] → PlaceOf types ft A (in_place Piece.Empty Piece.Empty load store) e
  at-once e load store loads stores = (
    one-turn types ft A Piece.Empty _ [] [] (e ∷ []) (turn-none types ft A []) loads,
    record {
      told = [];
      parts = turn-none types ft A [];
      twice = λ ops exits. has-empty types ft (shape ops A) exits;
      read = loads;
      store = stores;
    },
  )

  slot-place : (l i : ℕ) (e : ValueType) → In i A → slice_get (slot_types ft) i ≡ Some e
      → PlaceOf types ft A (variable l (place.Slot i)) e
  slot-place l i e inside typed = at-once e _ _
      (turn-op types ft A (Instr.Load i) l [] (e ∷ []) (λ full k ops g. (e, inside, typed, (ops, refl, g))))
      (slot-store l i e typed)

  global-place : (l g : ℕ) (e : ValueType) → slice_get types.globals g ≡ Some e
      → PlaceOf types ft A (variable l (place.Global g)) e
  global-place l g e typed = at-once e _ _
      (turn-op types ft A (Instr.LoadGlobal g) l [] (e ∷ []) (λ full k ops m. (e, typed, (ops, refl, m))))
      (global-store l g e typed)

  -- a name that is assigned takes a value of its type
  pub name-stores : (l : ℕ) (m : Operand) (v : GoType) → Named m → is_place m ≡ true
      → assignable (given_as.Typed v) (type_of m) ≡ true
      → TurnsOperands types ft A (name l t m).store (value_type v ∷ []) []
  name-stores l (operand.Variable (place.Slot i) (Some e)) v h place fit =
      subst (λ z. TurnsOperands types ft A (op l (Instr.Store i)) (z ∷ []) []) (sym (assigned-value v e fit))
      (slot-store l i (value_type e) h.1)
  name-stores l (operand.Variable (place.Slot i) None) v h place fit = absurd h
  name-stores l (operand.Variable (place.Global k) (Some e)) v h place fit =
      subst (λ z. TurnsOperands types ft A (op l (Instr.StoreGlobal k)) (z ∷ []) []) (sym (assigned-value v e fit))
      (global-store l k (value_type e) h)
  name-stores l (operand.Variable (place.Global k) None) v h place fit = absurd h
  name-stores l (operand.Field i e) v h place fit = absurd h
  name-stores l (operand.Element e) v h place fit = absurd h
  name-stores l operand.Unknown v h place fit = absurd h
  name-stores l _ v h place fit = cc

  -- what is put into `_` is dropped
  pub blank-stores : (l : ℕ) (e : ValueType) → TurnsOperands types ft A (name l t operand.Blank).store (e ∷ []) []
  blank-stores l e = turn-op types ft A Instr.Drop l (e ∷ []) [] (λ full k ops g. (e, (ops, refl, g)))

  pub shown-name : (l : ℕ) (m : Operand) → Named m → Shows m (name l t m)
  shown-name l (operand.Variable (place.Slot i) (Some e)) h = slot-place l i (value_type e) h.0 h.1
  shown-name l (operand.Variable (place.Global g) (Some e)) h = global-place l g (value_type e) h
  shown-name l (operand.Constant k b) h = push-fits l (constant t k) (base_type b) h
  shown-name l (operand.Truth b) h = turn-op types ft A (Instr.Bool b) l [] (ValueType.Bool ∷ [])
      (λ full k ops g. (ops, refl, g))
  shown-name l operand.Nil h = λ e nil. turn-op types ft A Instr.Nil l [] (e ∷ [])
      (λ full k ops g. (e, nil, (ops, refl, g)))
  shown-name l (operand.Function k) h = (turn-none types ft A [], h)
  shown-name l (operand.Struct k) h = tt
  shown-name l operand.TypeName h = tt
  shown-name l (operand.Package p) h = turn-none types ft A []
  shown-name l (operand.BuiltIn b) h = subst (λ o. PushesReceiver types ft A o Piece.Empty) (sym h)
      (turn-none types ft A [])
  shown-name l _ h = absurd h

  shown-known : (l : ℕ) (g : Option ℕ) (o : Option Operand) → ((m : Operand) → o ≡ Some m → Named m)
      → (known_name l g o).faults ≡ [] → Shows (known_name l g o).meaning (name l t (known_name l g o).meaning)
  shown-known l g None h none = cc
  shown-known l g (Some m) h none = shown-name l m (h m refl)

  shown-blank : (l : ℕ) → Shows operand.Blank (name l t operand.Blank)
  shown-blank l = (
    turn-none types ft A [],
    λ e. turn-op types ft A Instr.Drop l (e ∷ []) [] (λ full k ops g. (e, (ops, refl, g))),
  )

  shown-named : (l : ℕ) (blank : Bool) (j : Judged) → (j.faults ≡ [] → Shows j.meaning (name l t j.meaning))
      → (cond blank (leaf operand.Blank []) j).faults ≡ []
      → Shows (cond blank (leaf operand.Blank []) j).meaning (name l t (cond blank (leaf operand.Blank []) j).meaning)
  shown-named l true j h none = shown-blank l
  shown-named l false j h none = h none

  pub on-name : (l : ℕ) (n : List ℕ) → ScopeFits types t ft A s → (named l s n).faults ≡ []
      → Shows (named l s n).meaning (name l t (named l s n).meaning)
  on-name l n ok none = shown-named l (is_blank n) (known_name l s.initialises (meaning s n))
      (shown-known l s.initialises (meaning s n) (name-means n ok)) none
