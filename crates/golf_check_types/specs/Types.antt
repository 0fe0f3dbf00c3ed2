-- Types, and what an operand gives (Go specification, "Types", "Type identity", "Assignability").
use Rattle.std.specs.Prelude.{Bool, true, false, not, ◌&&◌, ◌||◌, ◌==◌, List, [], ◌∷◌, Option, Some, None}
use Rattle.golf_check_types.specs.declared.types.Layer.{Layer}
use Rattle.golf_check_types.specs.declared.types.Layer.TheVariants as layer
use Rattle.golf_check_types.specs.declared.types.Base.{Base}
use Rattle.golf_check_types.specs.declared.types.Base.TheVariants as base
use Rattle.golf_check_types.specs.declared.types.GoType.{GoType}
use Rattle.golf_check_types.specs.declared.operands.Operand.{Operand}
use Rattle.golf_check_types.specs.declared.operands.Operand.TheVariants as operand
use Rattle.golf_check_types.specs.declared.operands.Given.{Given}
use Rattle.golf_check_types.specs.declared.operands.Given.TheVariants as given_as

-- Identical types ("Type identity").

abbrev pub same_layer : Layer → Layer → Bool
same_layer layer.Slice layer.Slice = true
same_layer layer.Chan layer.Chan = true
same_layer layer.SendChan layer.SendChan = true
same_layer layer.ReceiveChan layer.ReceiveChan = true
same_layer _ _ = false

abbrev pub same_layers : List Layer → List Layer → Bool
same_layers [] [] = true
same_layers [] (y ∷ ys) = false
same_layers (x ∷ xs) [] = false
same_layers (x ∷ xs) (y ∷ ys) = same_layer x y && same_layers xs ys

abbrev pub same_base : Base → Base → Bool
same_base base.Int base.Int = true
same_base base.Bool base.Bool = true
same_base base.Text base.Text = true
same_base base.Unit base.Unit = true
same_base (base.Pointer i) (base.Pointer j) = i == j
same_base base.Mutex base.Mutex = true
same_base base.Group base.Group = true
same_base base.ReadWriteMutex base.ReadWriteMutex = true
same_base base.Condition base.Condition = true
same_base _ _ = false

abbrev pub same_type : GoType → GoType → Bool
same_type a b = same_layers a.layers b.layers && same_base a.base b.base

-- a type without layers
abbrev pub plain : Base → GoType
plain b = record { layers = []; base = b }

-- a type with one more layer before it
abbrev pub with_layer : Layer → Option GoType → Option GoType
with_layer x None = None
with_layer x (Some t) = Some (record { layers = x ∷ t.layers; base = t.base })

-- the value that a type gives
abbrev pub given_type : Option GoType → Given
given_type None = given_as.Unknown
given_type (Some t) = given_as.Typed t

-- the value that an operand gives
abbrev pub given : Operand → Given
given (operand.Value t) = given_type t
given (operand.Outcome t) = given_type t
given (operand.Constant k b) = given_as.Typed (plain b)
given (operand.Truth b) = given_as.Typed (plain base.Bool)
given (operand.Variable w t) = given_type t
given (operand.Field i t) = given_type t
given (operand.Element t) = given_type t
given operand.Nil = given_as.Nil
given _ = given_as.Unknown

-- the type of an operand, if it has one
abbrev pub type_of : Operand → Option GoType
type_of (operand.Value t) = t
type_of (operand.Outcome t) = t
type_of (operand.Constant k b) = Some (plain b)
type_of (operand.Truth b) = Some (plain base.Bool)
type_of (operand.Variable w t) = t
type_of (operand.Field i t) = t
type_of (operand.Element t) = t
type_of _ = None

-- the type of a value, if it has one
abbrev pub type_given : Given → Option GoType
type_given (given_as.Typed t) = Some t
type_given _ = None

abbrev pub is_nil : Given → Bool
is_nil given_as.Nil = true
is_nil _ = false

-- Tests of values. A value whose type is not known satisfies each test, so it breaks no rule.

-- whether the value is of this type without layers
abbrev pub has_base : Base → Given → Bool
has_base b (given_as.Typed t) = same_layers t.layers [] && same_base t.base b
has_base b given_as.Nil = false
has_base b given_as.Unknown = true

-- whether the outermost layer satisfies the test
abbrev pub starts_with : (Layer → Bool) → List Layer → Bool
starts_with fits [] = false
starts_with fits (x ∷ xs) = fits x

abbrev pub has_layer : (Layer → Bool) → Given → Bool
has_layer fits (given_as.Typed t) = starts_with fits t.layers
has_layer fits given_as.Nil = false
has_layer fits given_as.Unknown = true

abbrev pub is_slice : Layer → Bool
is_slice layer.Slice = true
is_slice _ = false

abbrev pub is_channel : Layer → Bool
is_channel layer.Slice = false
is_channel _ = true

-- any layer passes: a slice or a channel
abbrev pub is_any : Layer → Bool
is_any x = true

-- a channel that can be received from
abbrev pub gives : Layer → Bool
gives layer.Chan = true
gives layer.ReceiveChan = true
gives _ = false

-- a channel that can be sent on
abbrev pub takes : Layer → Bool
takes layer.Chan = true
takes layer.SendChan = true
takes _ = false

abbrev pub inside : List Layer → Base → Option GoType
inside [] b = None
inside (x ∷ xs) b = Some (record { layers = xs; base = b })

-- the element type of a slice or a channel
abbrev pub element : Given → Option GoType
element (given_as.Typed t) = inside t.layers t.base
element _ = None

-- Assignable ("Assignability").

-- whether the base is a pointer
abbrev pub is_pointer : Base → Bool
is_pointer base.Int = false
is_pointer base.Bool = false
is_pointer base.Text = false
is_pointer base.Unit = false
is_pointer _ = true

-- whether nil is a value of the type: a pointer, a slice or a channel
abbrev pub takes_nil : List Layer → Base → Bool
takes_nil [] b = is_pointer b
takes_nil (x ∷ xs) b = true

-- whether a channel of both directions narrows to a channel of one direction
abbrev pub narrows : List Layer → List Layer → Bool
narrows (layer.Chan ∷ xs) (layer.SendChan ∷ ys) = same_layers xs ys
narrows (layer.Chan ∷ xs) (layer.ReceiveChan ∷ ys) = same_layers xs ys
narrows xs ys = false

abbrev pub assignable_type : GoType → GoType → Bool
assignable_type a b = same_type a b || (narrows a.layers b.layers && same_base a.base b.base)

abbrev pub assignable_to : Given → GoType → Bool
assignable_to (given_as.Typed a) b = assignable_type a b
assignable_to given_as.Nil b = takes_nil b.layers b.base
assignable_to given_as.Unknown b = true

abbrev pub assignable : Given → Option GoType → Bool
assignable v None = true
assignable v (Some b) = assignable_to v b

-- Comparison ("Comparison operators"): one value is assignable to the type of the other; nil compares with types that
-- have nil; a slice compares only with nil.
abbrev pub comparable : Given → Given → Bool
comparable given_as.Unknown y = true
comparable given_as.Nil given_as.Unknown = true
comparable given_as.Nil given_as.Nil = false
comparable given_as.Nil (given_as.Typed b) = takes_nil b.layers b.base
comparable (given_as.Typed a) given_as.Unknown = true
comparable (given_as.Typed a) given_as.Nil = takes_nil a.layers a.base
comparable (given_as.Typed a) (given_as.Typed b) = (assignable_type a b || assignable_type b a)
    && not (starts_with is_slice a.layers)
