-- Zero values, and values that are pushed (Go specification, "The zero value", "Constants").
use Rattle.std.specs.Prelude.{ℕ, pos, neg_ℤ, true, false, List, [], ◌∷◌, Option, Some, None, unwrap_or, slice_get}
use Rattle.golf_syntax_trees.specs.declared.declarations.Const.{Const}
use Rattle.golf_syntax_trees.specs.declared.declarations.Const.TheVariants as const
use Rattle.golf_data.specs.declared.value.Value.{Value}
use Rattle.golf_data.specs.declared.code.Instr.{Instr}
use Rattle.golf_check_types.specs.declared.types.Layer.{Layer}
use Rattle.golf_check_types.specs.declared.types.Layer.TheVariants as layer
use Rattle.golf_check_types.specs.declared.types.Base.{Base}
use Rattle.golf_check_types.specs.declared.types.Base.TheVariants as base
use Rattle.golf_check_types.specs.declared.types.GoType.{GoType}
use Rattle.golf_check_types.specs.Expressions.{value_from}
use Rattle.golf_code_of.specs.declared.tables.Tables.{Tables}
use Rattle.golf_code_of.specs.Table.{Texts, text_number}

-- The zero value of a type: 0, false, the empty text, `struct{}{}`, and nil.

abbrev pub base_zero : Base → Value
base_zero base.Int = Value.Int (pos 0)
base_zero base.Bool = Value.Bool false
base_zero base.Text = Value.Text 0
base_zero base.Unit = Value.Unit
base_zero _ = Value.Nil

abbrev pub type_zero : List Layer → Base → Value
type_zero [] b = base_zero b
type_zero (x ∷ xs) b = Value.Nil

-- the zero value of an unknown type is nil
abbrev pub zero_value : Option GoType → Value
zero_value None = Value.Nil
zero_value (Some t) = type_zero t.layers t.base

-- the instruction that pushes a value; no value of code is a reference
abbrev pub push : Value → Instr
push (Value.Int n) = Instr.Int n
push (Value.Bool b) = Instr.Bool b
push (Value.Text k) = Instr.Text k
push Value.Unit = Instr.Unit
push Value.Nil = Instr.Nil
push (Value.Ref o) = Instr.Nil

-- Constants.

abbrev pub const_value : Texts → Const → Value
const_value texts (const.Integer digits) = Value.Int (pos (value_from 0 digits))
const_value texts (const.Negative digits) = Value.Int (neg_ℤ (pos (value_from 0 digits)))
const_value texts (const.Text bytes) = Value.Text (text_number texts bytes)
const_value texts const.True = Value.Bool true
const_value texts const.False = Value.Bool false

-- the value of the constant of this number
abbrev pub constant : Tables → ℕ → Value
constant t k = unwrap_or (slice_get t.constants k) Value.Nil

-- the instruction that makes a slice or a channel of this type
abbrev pub new_container : List Layer → Base → Instr
new_container [] b = Instr.Nil
new_container (layer.Slice ∷ xs) b = Instr.NewSlice (type_zero xs b)
new_container (x ∷ xs) b = Instr.NewChan (type_zero xs b)

abbrev pub makes : Option GoType → Instr
makes None = Instr.Nil
makes (Some t) = new_container t.layers t.base
