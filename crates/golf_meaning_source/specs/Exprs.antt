-- What each kind of expression does, from the judgments and the meanings of its parts (Go specification,
-- "Expressions").
use Rattle.std.specs.Prelude.{ℕ, ◌+◌, pos, negsuc, Bool, true, false, cond, List, [], ◌∷◌, ◌++◌, length, map, Option}
use Rattle.std.specs.Prelude.{Some, None}
use Rattle.golf_syntax_trees.specs.declared.expressions.UnaryOperator.{UnaryOperator}
use Rattle.golf_syntax_trees.specs.declared.expressions.UnaryOperator.TheVariants as unary
use Rattle.golf_syntax_trees.specs.declared.expressions.BinaryOperator.{BinaryOperator}
use Rattle.golf_syntax_trees.specs.declared.expressions.BinaryOperator.TheVariants as binary
use Rattle.golf_data.specs.declared.value.Value.{Value}
use Rattle.golf_data.specs.declared.code.Instr.{Instr}
use Rattle.std.specs.Prelude.{int_lt, int_le}
use Rattle.golf_model.specs.Values.{zero_of}
use Rattle.golf_model.specs.Arithmetic.{sum, difference, product, quotient, remainder}
use Rattle.golf_check_types.specs.declared.types.Base.{Base}
use Rattle.golf_check_types.specs.declared.types.Base.TheVariants as base
use Rattle.golf_check_types.specs.declared.types.GoType.{GoType}
use Rattle.golf_check_types.specs.declared.operands.Operand.{Operand}
use Rattle.golf_check_types.specs.declared.operands.Operand.TheVariants as operand
use Rattle.golf_check_types.specs.declared.operands.Where.TheVariants as place
use Rattle.golf_check_types.specs.declared.operands.BuiltIn.{BuiltIn}
use Rattle.golf_check_types.specs.declared.operands.BuiltIn.TheVariants as built_in
use Rattle.golf_check_types.specs.declared.scopes.FileScope.{FileScope}
use Rattle.golf_check_types.specs.Types.{plain}
use Rattle.golf_check_types.specs.Expressions.{struct_of, field_place}
use Rattle.golf_check_types.specs.Calls.{sets_finaliser}
use Rattle.golf_code_of.specs.declared.tables.Tables.{Tables}
use Rattle.golf_code_of.specs.Values.{constant, makes}
use Rattle.golf_meaning_flat.specs.Worlds.{World, Part, bind}
use Rattle.golf_meaning_flat.specs.InstructionEffects.{unfit, negated, inverted, computed, divided, compared, equated}
use Rattle.golf_meaning_source.specs.Names.{Env, find, assign}
use Rattle.golf_meaning_source.specs.Operations.{Taking, Gives, gives, both, then_do, in_order, visible, panicking}
use Rattle.golf_meaning_source.specs.Operations.{on_one, on_two, if_true}

-- Left sides.

pub data Location : Type 0 where
  Nowhere : Location
  Blank : Location
  Local : (n : List ℕ) → Location
  Global : (g : ℕ) (of_type : Option GoType) → Location
  Field : (i : ℕ) (of_type : Option GoType) → Location
  Element : (of_type : Option GoType) → Location

abbrev pub found : Option Value → Gives
found None w = unfit w
found (Some v) w = Part.Gives (v ∷ []) w

abbrev pub if_none : {A : Type 0} → List Value → World → Part A → Part A
if_none [] w p = p
if_none (v ∷ vs) w p = unfit w

abbrev pub assigned : Env → List ℕ → Option Value → Value → World → Part Env
assigned env n None v w = unfit w
assigned env n (Some old) v w = Part.Gives (assign env n v) w

abbrev pub assigned_one : Env → List ℕ → List Value → World → Part Env
assigned_one env n (v ∷ []) w = assigned env n (find env n) v w
assigned_one env n _ w = unfit w

abbrev pub dropped : Env → List Value → World → Part Env
dropped env (v ∷ []) w = Part.Gives env w
dropped env _ w = unfit w

-- What an expression does in an environment: its value, or the receiver of a method; and as a left side its place, and
-- the operands that name the place.
pub record Does : Type 0 where
  pub value : Env → Gives
  pub place : Env → Location
  pub parts : Env → Gives

abbrev pub only : (Env → Gives) → Does
only f = record { value = f; place = λ env. Location.Nowhere; parts = λ env w. Part.Gives [] w }

abbrev pub constant_gives : List Value → Env → Gives
constant_gives vs env w = Part.Gives vs w

abbrev pub outer_place : List ℕ → Option Operand → Location
outer_place n (Some (operand.Variable (place.Global g) t)) = Location.Global g t
outer_place n (Some (operand.Variable (place.Slot i) t)) = Location.Local n
outer_place n (Some operand.Blank) = Location.Blank
outer_place n _ = Location.Nowhere

abbrev pub place_of_name : List ℕ → Option Value → Option Operand → Location
place_of_name n (Some v) outer = Location.Local n
place_of_name n None outer = outer_place n outer

abbrev pub plain_type : Base → List (Option GoType)
plain_type b = Some (plain b) ∷ []

abbrev pub pointer_type : Option Base → List (Option GoType)
pointer_type None = None ∷ []
pointer_type (Some b) = Some (plain b) ∷ []

abbrev pub one_reference : List Value → Gives → Gives
one_reference (p ∷ []) f w = f w
one_reference _ f w = unfit w

abbrev pub int_value : ℕ → Value
int_value n = Value.Int (pos n)

-- the types of the values that an expression leaves
abbrev pub left_types : Operand → List (Option GoType)
left_types (operand.Value t) = t ∷ []
left_types (operand.Outcome t) = t ∷ []
left_types (operand.Element t) = t ∷ []
left_types _ = []

abbrev pub element_type : Operand → Option GoType
element_type (operand.Element t) = t
element_type _ = None

abbrev pub negating : (List Value → Gives) → List Value → Gives
negating f vs = then_do (f vs) (on_one inverted)

abbrev pub calculation : BinaryOperator → List Value → Gives
calculation binary.Equal = on_two equated
calculation binary.NotEqual = negating (on_two equated)
calculation binary.Less = on_two (compared int_lt)
calculation binary.AtMost = on_two (compared int_le)
calculation binary.Greater = negating (on_two (compared int_le))
calculation binary.AtLeast = negating (on_two (compared int_lt))
calculation binary.Add = on_two (computed sum)
calculation binary.Subtract = on_two (computed difference)
calculation binary.Multiply = on_two (computed product)
calculation binary.Divide = on_two (divided quotient)
calculation binary.Remainder = on_two (divided remainder)
calculation _ = λ vs. unfit

-- the second operand of `&&` and `||` is evaluated only if it decides
abbrev pub binary_does : BinaryOperator → Gives → Gives → Gives
binary_does binary.Or a b = then_do (then_do a (on_one inverted)) (λ vs. if_true vs b (gives (Value.Bool true ∷ [])))
binary_does binary.And a b = then_do a (λ vs. if_true vs b (gives (Value.Bool false ∷ [])))
binary_does o a b = then_do (both a b) (calculation o)

-- an argument: its judgment and its value
pub record ArgumentMeaning : Type 0 where
  pub meaning : Operand
  pub value : Gives

abbrev pub values_of : List ArgumentMeaning → Gives
values_of xs = in_order (map (λ x. x.value) xs)

module _ (taking : Taking) where
  -- reads a place that is named by these operands
  abbrev pub read : Env → Location → List Value → Gives
  read env Location.Nowhere vs w = if_none vs w (Part.Gives [] w)
  read env Location.Blank vs w = if_none vs w (Part.Gives [] w)
  read env (Location.Local n) vs w = if_none vs w (found (find env n) w)
  read env (Location.Global g t) vs w = if_none vs w (visible taking (Instr.LoadGlobal g) (t ∷ []) [] w)
  read env (Location.Field i t) vs w = visible taking (Instr.Field i) (t ∷ []) vs w
  read env (Location.Element t) vs w = visible taking Instr.Index (t ∷ []) vs w

  -- stores a value; the operands that name the place are below it
  abbrev pub store : Env → Location → List Value → World → Part Env
  store env Location.Nowhere vs w = unfit w
  store env Location.Blank vs w = dropped env vs w
  store env (Location.Local n) vs w = assigned_one env n vs w
  store env (Location.Global g t) vs w = bind (visible taking (Instr.StoreGlobal g) [] vs w)
      (λ us u. if_none us u (Part.Gives env u))
  store env (Location.Field i t) vs w = bind (visible taking (Instr.SetField i) [] vs w)
      (λ us u. if_none us u (Part.Gives env u))
  store env (Location.Element t) vs w = bind (visible taking Instr.SetIndex [] vs w)
      (λ us u. if_none us u (Part.Gives env u))

  abbrev pub in_place : (Env → Location) → (Env → Gives) → Does
  in_place p f = record { value = λ env. then_do (f env) (read env (p env)); place = p; parts = f }

  -- Names that are no locals.

  abbrev pub outer_value : Tables → Option Operand → Gives
  outer_value t (Some (operand.Variable (place.Global g) e)) = visible taking (Instr.LoadGlobal g) (e ∷ []) []
  outer_value t (Some (operand.Variable (place.Slot i) e)) = unfit
  outer_value t (Some (operand.Constant k b)) = gives (zero_of (constant t k) ∷ [])
  outer_value t (Some (operand.Truth b)) = gives (Value.Bool b ∷ [])
  outer_value t (Some operand.Nil) = gives (Value.Nil ∷ [])
  outer_value t _ = gives []

  abbrev pub value_of_name : Tables → Option Value → Option Operand → Gives
  value_of_name t (Some v) outer = gives (v ∷ [])
  value_of_name t None outer = outer_value t outer

  abbrev pub name_does : Tables → Bool → List ℕ → Option Operand → Does
  name_does t blank n outer = record {
    value = λ env. cond blank (gives []) (value_of_name t (find env n) outer);
    place = λ env. cond blank Location.Blank (place_of_name n (find env n) outer);
    parts = λ env. gives [];
  }

  -- Literals, `make` and `new`.

  abbrev pub new_struct : Option Base → Gives
  new_struct b = visible taking (Instr.NewStruct (struct_of b)) (pointer_type b) []

  -- puts a value into an object; the reference to the object stays
  abbrev pub puts_in : Instr → List Value → Gives → List Value → Gives
  puts_in i p e more w = bind (both (gives (p ++ more)) e w)
      (λ vs u. bind (visible taking i [] vs u) (λ us v. if_none us v (Part.Gives p v)))

  abbrev pub puts : FileScope → Option Base → List (List ℕ) → List Gives → List Value → Gives
  puts f b (n ∷ ns) (e ∷ es) p = then_do (one_reference p (puts_in (Instr.SetField (field_place f b n)) p e []))
      (puts f b ns es)
  puts f b _ _ p = gives p

  abbrev pub struct_literal : FileScope → Option Base → List (List ℕ) → List Gives → Gives
  struct_literal f b names es = then_do (new_struct b) (puts f b names es)

  abbrev pub new_sync : Option Base → Gives
  new_sync (Some base.Mutex) = visible taking Instr.NewMutex (plain_type base.Mutex) []
  new_sync (Some base.Group) = visible taking Instr.NewGroup (plain_type base.Group) []
  new_sync (Some base.ReadWriteMutex) = visible taking Instr.NewRw (plain_type base.ReadWriteMutex) []
  new_sync _ = gives []

  abbrev pub container : Instr → Option GoType → List Value → Gives
  container (Instr.NewSlice z) t vs = visible taking (Instr.NewSlice z) (t ∷ []) vs
  container (Instr.NewChan z) t vs = visible taking (Instr.NewChan z) (t ∷ []) vs
  container _ t vs = unfit

  abbrev pub made : Option GoType → List Value → Gives
  made t vs = container (makes t) t vs

  abbrev pub elements : ℕ → List Gives → List Value → Gives
  elements i [] s = gives s
  elements i (e ∷ es) s = then_do (one_reference s (puts_in Instr.SetIndex s e (int_value i ∷ [])))
      (elements (i + 1) es)

  abbrev pub slice_literal : Option GoType → List Gives → Gives
  slice_literal t es = then_do (made t (int_value (length es) ∷ [])) (elements 0 es)

  -- Selectors and indices.

  abbrev pub selector : Operand → (Env → Gives) → Does
  selector (operand.Field i t) e = in_place (λ env. Location.Field i t) e
  selector (operand.Value t) e = only (λ env. then_do (e env) (visible taking Instr.CondMutex (plain_type base.Mutex)))
  selector (operand.Method k) e = only e
  selector (operand.BuiltIn b) e = only e
  selector _ e = only (constant_gives [])

  -- Operators.

  abbrev pub unary_does : UnaryOperator → Operand → List Value → Gives
  unary_does unary.Negate m = on_one negated
  unary_does unary.Not m = on_one inverted
  unary_does unary.Receive m = visible taking Instr.Receive (left_types m)

  -- Calls.

  -- the operation of a built-in call on its operands; there are n of them
  abbrev pub operation : ℕ → BuiltIn → List (Option GoType) → List Value → Gives
  operation n built_in.Length ts = visible taking Instr.Len ts
  operation n built_in.Close ts = visible taking Instr.Close ts
  operation n built_in.Panic ts = panicking
  operation n built_in.Print ts = visible taking (Instr.Print n) ts
  operation n built_in.Collect ts = visible taking Instr.Collect ts
  operation n built_in.SetFinalizer ts = gives
  operation n built_in.NewCondition ts = visible taking Instr.NewCond ts
  operation n built_in.Lock ts = visible taking Instr.Lock ts
  operation n built_in.Unlock ts = visible taking Instr.Unlock ts
  operation n built_in.Add ts = visible taking Instr.GroupAdd ts
  operation n built_in.Done ts = λ vs. visible taking Instr.GroupAdd ts (vs ++ Value.Int (negsuc 0) ∷ [])
  operation n built_in.WaitGroup ts = visible taking Instr.GroupWait ts
  operation n built_in.WriteLock ts = visible taking Instr.RwLock ts
  operation n built_in.WriteUnlock ts = visible taking Instr.RwUnlock ts
  operation n built_in.ReadLock ts = visible taking Instr.ReadLock ts
  operation n built_in.ReadUnlock ts = visible taking Instr.ReadUnlock ts
  operation n built_in.WaitCondition ts = visible taking Instr.CondWait ts
  operation n built_in.Signal ts = visible taking Instr.CondSignal ts
  operation n built_in.Broadcast ts = visible taking Instr.CondBroadcast ts

  abbrev pub calling : ℕ → Operand → List (Option GoType) → List Value → Gives
  calling n (operand.Function k) ts = visible taking (Instr.Call (k + 1) n) ts
  calling n (operand.Method k) ts = visible taking (Instr.Call (k + 1) (n + 1)) ts
  calling n (operand.BuiltIn b) ts = operation n b ts
  calling n _ ts = gives

  abbrev pub finaliser : Operand → List Value → Gives
  finaliser (operand.Function k) = visible taking (Instr.SetFinalizer (k + 1)) []
  finaliser _ = visible taking Instr.ClearFinalizer []

  abbrev pub finalising : List ArgumentMeaning → Gives
  finalising (x ∷ (y ∷ ys)) = then_do x.value (finaliser y.meaning)
  finalising _ = gives []

  -- receiver, arguments, and the call
  abbrev pub call : Operand → Operand → Gives → List ArgumentMeaning → Gives
  call f result receiver xs = cond (sets_finaliser f) (finalising xs)
      (then_do (both receiver (values_of xs)) (calling (length xs) f (left_types result)))
