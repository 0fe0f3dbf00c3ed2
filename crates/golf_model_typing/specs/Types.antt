-- Types of the values and objects that the machine holds.
use Rattle.std.specs.Prelude.{◌≡◌, ℕ, ◌<◌, List, [], ◌∷◌, Option, Some, slice_get}
use Rattle.golf_theory.specs.Maps.{find}
use Rattle.golf_theory.specs.Membership.{Every}
use Rattle.golf_data.specs.declared.value.Value.{Value}
use Rattle.golf_data.specs.declared.value.Object.{Object}
use Rattle.golf_data.specs.declared.value.Channel.{Channel}

-- the type of a value; a channel's directions are forgotten, since no instruction asks for them
pub data ValueType : Type 0 where
  Int : ValueType
  Bool : ValueType
  Text : ValueType
  EmptyStruct : ValueType
  -- a pointer to a struct of this row of the code's table
  Struct : (k : ℕ) → ValueType
  Mutex : ValueType
  Group : ValueType
  Rw : ValueType
  Cond : ValueType
  Slice : (e : ValueType) → ValueType
  Chan : (e : ValueType) → ValueType

-- nil is a value of the type
abbrev pub IsNilable : ValueType → Type 0
IsNilable ValueType.Int = ⊥
IsNilable ValueType.Bool = ⊥
IsNilable ValueType.Text = ⊥
IsNilable ValueType.EmptyStruct = ⊥
IsNilable (ValueType.Struct k) = Unit {0}
IsNilable ValueType.Mutex = Unit {0}
IsNilable ValueType.Group = Unit {0}
IsNilable ValueType.Rw = Unit {0}
IsNilable ValueType.Cond = Unit {0}
IsNilable (ValueType.Slice e) = Unit {0}
IsNilable (ValueType.Chan e) = Unit {0}

-- what is known at a position before its instruction: the types of the operands, the top one first, and the slots that
-- hold a value of their type
pub record Shape : Type 0 where
  pub operands : List ValueType
  pub assigned : List ℕ

-- a function as its callers see it, and its other slots; the parameters are in the first slots, and each slot has one
-- type
pub record Signature : Type 0 where
  pub params : List ValueType
  pub locals : List ValueType
  pub result : Option ValueType

-- the types to which the rules of instructions refer
pub record Types : Type 0 where
  pub structs : List (List ValueType)
  pub globals : List ValueType
  pub functions : List Signature
  -- how many texts the table has
  pub texts : ℕ

-- a function with one shape for each position
pub record FunctionTypes : Type 0 where
  pub params : List ValueType
  pub locals : List ValueType
  pub result : Option ValueType
  pub shapes : List Shape

abbrev pub signature : FunctionTypes → Signature
signature ft = record { params = ft.params; locals = ft.locals; result = ft.result }

abbrev pub with_shapes : Signature → List Shape → FunctionTypes
with_shapes sig shapes = record { params = sig.params; locals = sig.locals; result = sig.result; shapes = shapes }

-- the types of a code, and the shapes of each function
pub record Typing : Type 0 where
  pub of : Types
  pub shapes : List (List Shape)

-- the object of this number is known to be of this type
abbrev pub HasType : List (ℕ × ValueType) → ℕ → ValueType → Type 0
HasType known o t = find o known ≡ Some t

module _ (types : Types) (known : List (ℕ × ValueType)) where
  -- the value is of the type; a reference is to an object that is known to be of the type
  abbrev pub ValueFits : Value → ValueType → Type 0
  ValueFits (Value.Int n) t = t ≡ ValueType.Int
  ValueFits (Value.Bool b) t = t ≡ ValueType.Bool
  ValueFits (Value.Text k) t = (t ≡ ValueType.Text) × (k < types.texts)
  ValueFits Value.Unit t = t ≡ ValueType.EmptyStruct
  ValueFits Value.Nil t = IsNilable t
  ValueFits (Value.Ref o) t = HasType known o.0 t × IsNilable t

  abbrev pub ValuesFit : List Value → List ValueType → Type 0
  ValuesFit [] [] = Unit {0}
  ValuesFit [] (t ∷ ts) = ⊥
  ValuesFit (v ∷ vs) [] = ⊥
  ValuesFit (v ∷ vs) (t ∷ ts) = ValueFits v t × ValuesFit vs ts

  pub record ChannelFits (c : Channel) (e : ValueType) : Type 0 where
    pub buffer : Every (λ v. ValueFits v e) c.buffer
    pub zero : ValueFits c.zero e

  -- the object is of the type, which is the type of the references to it
  abbrev pub ObjectFits : Object → ValueType → Type 0
  ObjectFits (Object.Struct fields) t = (k : ℕ) × (ts : List ValueType) × (t ≡ ValueType.Struct k)
      × (slice_get types.structs k ≡ Some ts) × ValuesFit fields ts
  ObjectFits (Object.Slice elements) t = (e : ValueType) × (t ≡ ValueType.Slice e) × Every (λ v. ValueFits v e) elements
  ObjectFits (Object.Chan c) t = (e : ValueType) × (t ≡ ValueType.Chan e) × ChannelFits c e
  ObjectFits (Object.Mutex locked) t = t ≡ ValueType.Mutex
  ObjectFits (Object.Group n) t = t ≡ ValueType.Group
  ObjectFits (Object.Rw n) t = t ≡ ValueType.Rw
  ObjectFits (Object.Cond m) t = (t ≡ ValueType.Cond) × ValueFits m ValueType.Mutex
