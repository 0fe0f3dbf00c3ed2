-- Integers of 64 bits, comparisons, jumps, structs and slices.
use Rattle.std.specs.Prelude.{◌≡◌, ℕ, true, false, List, [], ◌∷◌, Some, None, refl, pos, negsuc, ℤ}
use Rattle.std.specs.Fmt.{digits}
use Rattle.golf_data.specs.declared.value.Value.{Value}
use Rattle.golf_data.specs.declared.code.Code.{Code}
use Rattle.golf_data.specs.declared.code.Instr.{Instr}
use Rattle.golf_data.specs.declared.goroutine.PanicKind.{PanicKind}
use Rattle.golf_model.specs.State.{ending}
use Rattle.golf_model.proofs.Examples.Writing.{number, push, straight, lowest, after, panicked}
use Rattle.golf_model.specs.Values.{equality, reference, zero_of}
use Rattle.golf_model.specs.Arithmetic.{sum, difference, product, quotient, remainder}
use Rattle.golf_model.specs.Structures.{is_bad_size}

-- the greatest and the least `int`
abbrev greatest : ℤ
greatest = pos 9223372036854775807

abbrev least : ℤ
least = negsuc 9223372036854775807

-- sums, differences and products wrap
pub sum_wraps : sum greatest (pos 1) ≡ least
sum_wraps = refl

pub difference_wraps : difference least (pos 1) ≡ greatest
difference_wraps = refl

pub product_wraps : product greatest (pos 2) ≡ negsuc 1
product_wraps = refl

pub difference_in_order : difference (pos 3) (pos 5) ≡ negsuc 1
difference_in_order = refl

-- a quotient is cut off toward zero, and a remainder has the sign of the first
pub quotient_of_negative : quotient (negsuc 6) (pos 2) ≡ negsuc 2
quotient_of_negative = refl

pub remainder_of_negative : remainder (negsuc 6) (pos 2) ≡ negsuc 0
remainder_of_negative = refl

pub remainder_by_negative : remainder (pos 7) (negsuc 1) ≡ pos 1
remainder_by_negative = refl

pub least_quotient_wraps : quotient least (negsuc 0) ≡ least
least_quotient_wraps = refl

pub least_remainder : remainder least (negsuc 0) ≡ pos 0
least_remainder = refl

-- equality of values of one kind: integers, truth values, texts, `struct{}{}`, references and nil
pub same_int : equality (Value.Int (negsuc 4)) (Value.Int (negsuc 4)) ≡ Some true
same_int = refl

pub other_sign : equality (Value.Int (negsuc 4)) (number 4) ≡ Some false
other_sign = refl

pub both_false : equality (Value.Bool false) (Value.Bool false) ≡ Some true
both_false = refl

pub other_bool : equality (Value.Bool true) (Value.Bool false) ≡ Some false
other_bool = refl

pub same_text : equality (Value.Text 2) (Value.Text 2) ≡ Some true
same_text = refl

pub other_text : equality (Value.Text 2) (Value.Text 1) ≡ Some false
other_text = refl

pub units_are_equal : equality Value.Unit Value.Unit ≡ Some true
units_are_equal = refl

pub same_reference : equality (reference 3) (reference 3) ≡ Some true
same_reference = refl

pub other_reference : equality (reference 3) (reference 4) ≡ Some false
other_reference = refl

pub nil_is_nil : equality Value.Nil Value.Nil ≡ Some true
nil_is_nil = refl

pub nil_is_no_reference : equality Value.Nil (reference 4) ≡ Some false
nil_is_no_reference = refl

pub reference_is_not_nil : equality (reference 4) Value.Nil ≡ Some false
reference_is_not_nil = refl

-- values of different kinds are not compared
pub int_with_text : equality (number 1) (Value.Text 1) ≡ None
int_with_text = refl

-- the greatest size, and those past the limits
pub greatest_size : is_bad_size (pos 65536) ≡ false
greatest_size = refl

pub too_great_a_size : is_bad_size (pos 65537) ≡ true
too_great_a_size = refl

pub negative_size : is_bad_size (negsuc 0) ≡ true
negative_size = refl

-- `3 - 5 < 0` and `0 <= 0`
pub comparisons : (after (straight (push 3 ∷ push 5 ∷ Instr.Sub ∷ push 0 ∷ Instr.Less ∷ push 0 ∷ push 0 ∷ Instr.AtMost
    ∷ push 0 ∷ push 0 ∷ Instr.Less ∷ Instr.Not ∷ Instr.Print 3 ∷ [])) (lowest 13)).output
    ≡ 116 ∷ 114 ∷ 117 ∷ 101 ∷ 32 ∷ 116 ∷ 114 ∷ 117 ∷ 101 ∷ 32 ∷ 116 ∷ 114 ∷ 117 ∷ 101 ∷ 10 ∷ []
comparisons = refl

-- `2 + 3 * 4` and `-7`
pub arithmetic : (after (straight (push 2 ∷ push 3 ∷ push 4 ∷ Instr.Mul ∷ Instr.Add ∷ push 7 ∷ Instr.Neg ∷ Instr.Print 2
    ∷ [])) (lowest 8)).output ≡ 49 ∷ 52 ∷ 32 ∷ 45 ∷ 55 ∷ 10 ∷ []
unfolding digits
arithmetic = refl

-- the table of the specification: 5 and 3 with either sign, divided
abbrev divided : ℤ → ℤ → List ℕ
divided x y = (after (straight (Instr.Int x ∷ Instr.Int y ∷ Instr.Div ∷ Instr.Int x ∷ Instr.Int y ∷ Instr.Rem
    ∷ Instr.Print 2 ∷ [])) (lowest 7)).output

pub five_by_three : divided (pos 5) (pos 3) ≡ 49 ∷ 32 ∷ 50 ∷ 10 ∷ []
unfolding digits
five_by_three = refl

pub minus_five_by_three : divided (negsuc 4) (pos 3) ≡ 45 ∷ 49 ∷ 32 ∷ 45 ∷ 50 ∷ 10 ∷ []
unfolding digits
minus_five_by_three = refl

pub five_by_minus_three : divided (pos 5) (negsuc 2) ≡ 45 ∷ 49 ∷ 32 ∷ 50 ∷ 10 ∷ []
unfolding digits
five_by_minus_three = refl

pub minus_five_by_minus_three : divided (negsuc 4) (negsuc 2) ≡ 49 ∷ 32 ∷ 45 ∷ 50 ∷ 10 ∷ []
unfolding digits
minus_five_by_minus_three = refl

-- the least `int` negated is itself
pub least_negated : (after (straight (Instr.Int least ∷ Instr.Neg ∷ Instr.Int least ∷ Instr.Eq ∷ Instr.Print 1 ∷ []))
    (lowest 5)).output ≡ 116 ∷ 114 ∷ 117 ∷ 101 ∷ 10 ∷ []
least_negated = refl

-- `3 == 3`, `3 == 4`, `struct{}{} == struct{}{}` and a reference that is compared with nil
pub equalities : (after (straight (push 3 ∷ push 3 ∷ Instr.Eq ∷ push 3 ∷ push 4 ∷ Instr.Eq ∷ Instr.Unit ∷ Instr.Unit
    ∷ Instr.Eq ∷ Instr.NewStruct 0 ∷ Instr.Nil ∷ Instr.Eq ∷ Instr.Print 4 ∷ [])) (lowest 13)).output
    ≡ 116 ∷ 114 ∷ 117 ∷ 101 ∷ 32 ∷ 102 ∷ 97 ∷ 108 ∷ 115 ∷ 101 ∷ 32 ∷ 116 ∷ 114 ∷ 117 ∷ 101 ∷ 32 ∷ 102 ∷ 97 ∷ 108 ∷ 115
    ∷ 101 ∷ 10 ∷ []
equalities = refl

-- texts are printed as they are, and no operands make an empty line
abbrev printing : List Instr → Code
printing body = record (straight body) { texts = [] ∷ (104 ∷ 105 ∷ []) ∷ [] }

pub texts : (after (printing (Instr.Text 1 ∷ Instr.Text 0 ∷ Instr.Int (negsuc 4) ∷ Instr.Bool false ∷ Instr.Print 4
    ∷ Instr.Print 0 ∷ [])) (lowest 6)).output ≡ 104 ∷ 105 ∷ 32 ∷ 32 ∷ 45 ∷ 53 ∷ 32 ∷ 102 ∷ 97 ∷ 108 ∷ 115 ∷ 101 ∷ 10
    ∷ 10 ∷ []
unfolding digits
texts = refl

-- a jump is taken if the value is false
pub jump_if_not : (after (straight (Instr.Bool true ∷ Instr.JumpIfNot 5 ∷ Instr.Bool false ∷ Instr.JumpIfNot 6
    ∷ Instr.Return ∷ Instr.Return ∷ push 4 ∷ Instr.Print 1 ∷ [])) (lowest 6)).output ≡ 52 ∷ 10 ∷ []
unfolding digits
jump_if_not = refl

-- `Dup2` and the order of the operands
pub doubles_two : (after (straight (push 1 ∷ push 2 ∷ Instr.Dup2 ∷ Instr.Print 4 ∷ [])) (lowest 4)).output ≡ 49 ∷ 32
    ∷ 50 ∷ 32 ∷ 49 ∷ 32 ∷ 50 ∷ 10 ∷ []
unfolding digits
doubles_two = refl

-- a slice keeps its elements and its length
pub slices : (after (straight (push 2 ∷ Instr.NewSlice (number 0) ∷ Instr.Store 0 ∷ Instr.Load 0 ∷ push 1 ∷ push 7
    ∷ Instr.SetIndex ∷ Instr.Load 0 ∷ push 0 ∷ Instr.Index ∷ Instr.Load 0 ∷ push 1 ∷ Instr.Index ∷ Instr.Load 0
    ∷ Instr.Len ∷ Instr.Print 3 ∷ [])) (lowest 16)).output
    ≡ 48 ∷ 32 ∷ 55 ∷ 32 ∷ 50 ∷ 10 ∷ []
unfolding digits
slices = refl

-- a field of a shared struct; nil has length 0
pub fields : (after (straight (Instr.NewStruct 0 ∷ Instr.Dup ∷ push 7 ∷ Instr.SetField 0 ∷ Instr.Field 0 ∷ Instr.Nil
    ∷ Instr.Len ∷ Instr.Print 2 ∷ [])) (lowest 8)).output ≡ 55 ∷ 32 ∷ 48 ∷ 10 ∷ []
unfolding digits
fields = refl

-- what is stored in a slot or a global is loaded
pub variables : (after (straight (push 4 ∷ Instr.Store 1 ∷ push 6 ∷ Instr.StoreGlobal 0 ∷ Instr.Load 0 ∷ Instr.Load 1
    ∷ Instr.LoadGlobal 0 ∷ Instr.Print 3 ∷ [])) (lowest 8)).output ≡ 48 ∷ 32 ∷ 52 ∷ 32 ∷ 54 ∷ 10 ∷ []
unfolding digits
variables = refl

-- an element past the end, and one of nil, panic
pub past_the_end : ending (after (straight (push 2 ∷ Instr.NewSlice (number 0) ∷ push 2 ∷ Instr.Index ∷ [])) (lowest 5))
    ≡ Some (panicked (PanicKind.Index (pos 2) 2) 1 4)
past_the_end = refl

pub set_past_the_end : ending (after (straight
    (push 2 ∷ Instr.NewSlice (number 0) ∷ Instr.Int (negsuc 0) ∷ push 7 ∷ Instr.SetIndex ∷ [])) (lowest 6)) ≡ Some
    (panicked (PanicKind.Index (negsuc 0) 2) 1 5)
set_past_the_end = refl

pub set_index_of_nil : ending (after (straight (Instr.Nil ∷ push 0 ∷ push 7 ∷ Instr.SetIndex ∷ [])) (lowest 5)) ≡ Some
    (panicked (PanicKind.Index (pos 0) 0) 1 4)
set_index_of_nil = refl

pub index_of_nil : ending (after (straight (Instr.Nil ∷ push 0 ∷ Instr.Index ∷ [])) (lowest 4)) ≡ Some
    (panicked (PanicKind.Index (pos 0) 0) 1 3)
index_of_nil = refl

-- a size that is negative or too great panics, and so does a divisor of 0
pub slice_size : ending (after (straight (Instr.Int (negsuc 0) ∷ Instr.NewSlice (number 0) ∷ [])) (lowest 3)) ≡ Some
    (panicked PanicKind.SliceSize 1 2)
slice_size = refl

pub channel_size : ending (after (straight (push 65537 ∷ Instr.NewChan (number 0) ∷ [])) (lowest 3)) ≡ Some
    (panicked PanicKind.ChanSize 1 2)
channel_size = refl

pub quotient_by_zero : ending (after (straight (push 1 ∷ push 0 ∷ Instr.Div ∷ [])) (lowest 4)) ≡ Some
    (panicked PanicKind.DivideByZero 1 3)
quotient_by_zero = refl

pub remainder_by_zero : ending (after (straight (push 1 ∷ push 0 ∷ Instr.Rem ∷ [])) (lowest 4)) ≡ Some
    (panicked PanicKind.DivideByZero 1 3)
remainder_by_zero = refl

-- no zero value is a reference
pub zero_is_no_reference : zero_of (reference 3) ≡ Value.Nil
zero_is_no_reference = refl
