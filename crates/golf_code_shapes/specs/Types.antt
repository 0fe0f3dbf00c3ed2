-- Types of the checker as types of shapes (Go specification, "Types"), and the types of the code of a file.
use Rattle.std.specs.Prelude.{List, [], ◌∷◌, map, Option, Some, None}
use Rattle.golf_check_types.specs.declared.types.Layer.{Layer}
use Rattle.golf_check_types.specs.declared.types.Layer.TheVariants as layer
use Rattle.golf_check_types.specs.declared.types.Base.{Base}
use Rattle.golf_check_types.specs.declared.types.Base.TheVariants as base
use Rattle.golf_check_types.specs.declared.types.GoType.{GoType}
use Rattle.golf_check_types.specs.declared.operands.Given.{Given}
use Rattle.golf_check_types.specs.declared.operands.Given.TheVariants as given_as
use Rattle.golf_model_typing.specs.Types.{ValueType, IsNilable}

abbrev pub base_type : Base → ValueType
base_type base.Int = ValueType.Int
base_type base.Bool = ValueType.Bool
base_type base.Text = ValueType.Text
base_type base.Unit = ValueType.EmptyStruct
base_type (base.Pointer k) = ValueType.Struct k
base_type base.Mutex = ValueType.Mutex
base_type base.Group = ValueType.Group
base_type base.ReadWriteMutex = ValueType.Rw
base_type base.Condition = ValueType.Cond

abbrev pub layers_type : List Layer → Base → ValueType
layers_type [] b = base_type b
layers_type (layer.Slice ∷ xs) b = ValueType.Slice (layers_type xs b)
layers_type (x ∷ xs) b = ValueType.Chan (layers_type xs b)

abbrev pub value_type : GoType → ValueType
value_type t = layers_type t.layers t.base

-- it holds of the type of what is given so; of nil it holds at each type that has nil
abbrev pub ByType : (ValueType → Type 0) → Given → Type 0
ByType P (given_as.Typed e) = P (value_type e)
ByType P given_as.Nil = (u : ValueType) → IsNilable u → P u
ByType P given_as.Unknown = ⊥

-- An unknown type, which no typed file has, is read as a type that has nil.
abbrev pub known_type : Option GoType → ValueType
known_type None = ValueType.Mutex
known_type (Some t) = value_type t

abbrev pub known_types : List (Option GoType) → List ValueType
known_types ts = map known_type ts
