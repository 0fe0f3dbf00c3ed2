-- Structs and slices (Go specification, "Struct types", "Index expressions", "Making slices, maps and channels").
use Rattle.std.specs.Prelude.{ℕ, ◌+◌, Bool, false, ◌||◌, pos, negsuc, ℤ, List, [], ◌∷◌, length, replicate, Option, Some}
use Rattle.std.specs.Prelude.{None, slice_get, slice_set, unsigned_abs, int_lt}
use Rattle.golf_theory.specs.Maps.{find}
use Rattle.golf_data.specs.declared.value.Value.{Value}
use Rattle.golf_data.specs.declared.value.Object.{Object}
use Rattle.golf_data.specs.declared.value.Channel.{Channel}
use Rattle.golf_data.specs.declared.code.Code.{Code}
use Rattle.golf_data.specs.declared.goroutine.PanicKind.{PanicKind}
use Rattle.golf_model.specs.Values.{reference, int_of, zero_of, zeros_of}
use Rattle.golf_model.specs.State.{State}
use Rattle.golf_model.specs.Changes.{Change}
use Rattle.golf_model.specs.Actors.{Actor, goes, leaves, panics, on_some, taking_one, taking_two, taking_three, choose}
use Rattle.golf_model.specs.Actors.{at_reference, at_reference_or, at_struct, at_slice}

-- a new object, with the reference to it on top of these operands
abbrev pub makes : Actor → Object → List Value → State → List Change
makes a x rest s = Change.Make x ∷ goes a (reference (s.last_object + 1) ∷ rest)

-- `-> ref`, a struct with the zero values of this row of the code's table
abbrev pub makes_struct : Code → Actor → ℕ → State → List Change
makes_struct code a t s = on_some (λ row. makes a (Object.Struct (zeros_of row)) a.frame.operands s)
    (slice_get code.structs t)

-- `p -> v`
abbrev pub gets_field : Actor → ℕ → State → List Change
gets_field a i s =
    taking_one (λ p rest. at_reference a (λ o. at_struct (λ fields. leaves a rest (slice_get fields i))
    (find o s.objects)) p) a.frame.operands

-- the field of that place becomes v
abbrev pub field_set : Actor → ℕ → Value → List Value → ℕ → List Value → List Change
field_set a i v rest o fields = on_some (λ old. Change.Replace o (Object.Struct (slice_set fields i v)) ∷ goes a rest)
    (slice_get fields i)

-- `p, v ->`
abbrev pub sets_field : Actor → ℕ → State → List Change
sets_field a i s =
    taking_two (λ p v rest. at_reference a (λ o. at_struct (field_set a i v rest o) (find o s.objects)) p)
    a.frame.operands

-- the most elements of a slice, and the greatest capacity of a channel (this runtime's rule)
abbrev pub most_elements : ℕ
most_elements = 65536

-- whether a size is negative or too great
abbrev pub is_bad_size : ℤ → Bool
is_bad_size n = int_lt n (pos 0) || int_lt (pos most_elements) n

-- `n -> ref`, n elements that have this zero value
abbrev pub makes_slice : Actor → Value → State → List Change
makes_slice a zero s =
    taking_one (λ x rest. on_some (λ n. choose (is_bad_size n) (panics a PanicKind.SliceSize)
    (makes a (Object.Slice (replicate (unsigned_abs n) (zero_of zero))) rest s)) (int_of x)) a.frame.operands

-- an open channel without values
abbrev pub new_channel : ℕ → Value → Channel
new_channel capacity zero = record { capacity = capacity; buffer = []; closed = false; zero = zero_of zero }

-- `n -> ref`, a channel of capacity n whose elements have this zero value
abbrev pub makes_channel : Actor → Value → State → List Change
makes_channel a zero s =
    taking_one (λ x rest. on_some (λ n. choose (is_bad_size n) (panics a PanicKind.ChanSize)
    (makes a (Object.Chan (new_channel (unsigned_abs n) zero)) rest s)) (int_of x)) a.frame.operands

-- the element at an index, or none if the index is out of range
abbrev pub element : List Value → ℤ → Option Value
element xs (pos i) = slice_get xs i
element xs (negsuc i) = None

-- acts on the element; an index out of range panics
abbrev pub within : Actor → ℤ → ℕ → (Value → List Change) → Option Value → List Change
within a i length act None = panics a (PanicKind.Index i length)
within a i length act (Some v) = act v

-- `s, i -> v`; nil has no elements
abbrev pub gets_element : Actor → State → List Change
gets_element a s =
    taking_two (λ x y rest. on_some (λ i. at_reference_or (panics a (PanicKind.Index i 0))
    (λ o. at_slice (λ xs. within a i (length xs) (λ v. goes a (v ∷ rest)) (element xs i)) (find o s.objects)) x)
    (int_of y)) a.frame.operands

abbrev pub element_set : Actor → ℤ → Value → List Value → ℕ → List Value → List Change
element_set a i v rest o xs =
    within a i (length xs) (λ old. Change.Replace o (Object.Slice (slice_set xs (unsigned_abs i) v)) ∷ goes a rest)
    (element xs i)

-- `s, i, v ->`
abbrev pub sets_element : Actor → State → List Change
sets_element a s =
    taking_three (λ x y v rest. on_some (λ i. at_reference_or (panics a (PanicKind.Index i 0))
    (λ o. at_slice (element_set a i v rest o) (find o s.objects)) x) (int_of y)) a.frame.operands

-- the number of elements of a slice, or of buffered values of a channel
abbrev pub length_of : Object → Option ℕ
length_of (Object.Struct fields) = None
length_of (Object.Slice elements) = Some (length elements)
length_of (Object.Chan c) = Some (length c.buffer)
length_of (Object.Mutex locked) = None
length_of (Object.Group n) = None
length_of (Object.Rw n) = None
length_of (Object.Cond v) = None

-- `x -> n`; 0 for nil
abbrev pub measures : Actor → State → List Change
measures a s =
    taking_one (λ x rest. at_reference_or (goes a (Value.Int (pos 0) ∷ rest))
    (λ o. on_some (λ y. on_some (λ n. goes a (Value.Int (pos n) ∷ rest)) (length_of y)) (find o s.objects)) x)
    a.frame.operands
