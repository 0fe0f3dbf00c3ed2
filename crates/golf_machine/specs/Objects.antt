-- Structs, slices and conditions among the objects.
use Rattle.std.specs.Prelude.{ℕ, Bool, true, false, List, length, Option, Some, None, slice_set, nat_lt}
use Rattle.std.specs.Prelude.{option_and_then}
use Rattle.golf_theory.specs.Maps.{find}
use Rattle.golf_data.specs.declared.value.Value.{Value}
use Rattle.golf_data.specs.declared.value.Object.{Object}
use Rattle.golf_model.specs.State.{State}
use Rattle.golf_model.specs.Structures.{length_of}

-- the fields of the struct, if the object is one
abbrev pub struct_of : Option Object → Option (List Value)
struct_of (Some (Object.Struct fields)) = Some fields
struct_of _ = None

-- the elements of the slice, if the object is one
abbrev pub slice_of : Option Object → Option (List Value)
slice_of (Some (Object.Slice elements)) = Some elements
slice_of _ = None

-- whether the list is there and has this place
abbrev pub has_place : ℕ → Option (List Value) → Bool
has_place i None = false
has_place i (Some xs) = nat_lt i (length xs)

-- the struct with v as the field at that place
abbrev pub field_changed : ℕ → Value → Object → Object
field_changed i v (Object.Struct fields) = Object.Struct (slice_set fields i v)
field_changed i v x = x

-- the slice with v as the element at that place
abbrev pub element_changed : ℕ → Value → Object → Object
element_changed i v (Object.Slice elements) = Object.Slice (slice_set elements i v)
element_changed i v x = x

abbrev pub is_mutex : Option Object → Bool
is_mutex (Some (Object.Mutex locked)) = true
is_mutex _ = false

-- whether a value is nil or a mutex
abbrev pub is_nil_or_mutex : State → Value → Bool
is_nil_or_mutex s Value.Nil = true
is_nil_or_mutex s (Value.Ref o) = is_mutex (find o.0 s.objects)
is_nil_or_mutex s _ = false

-- the length of the object that a value refers to; 0 for nil
abbrev pub measured : State → Value → Option ℕ
measured s Value.Nil = Some 0
measured s (Value.Ref o) = option_and_then length_of (find o.0 s.objects)
measured s _ = None
