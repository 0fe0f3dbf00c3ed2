-- Values, variables, arithmetic, comparisons and jumps (Go specification, "Arithmetic operators", "Integer overflow",
-- "Comparison operators").
use Rattle.std.specs.Prelude.{ℕ, ◌+◌, Bool, not, List, ◌∷◌, slice_get, slice_set, ℤ, int_rem}
use Rattle.std.specs.Int.{w64, int_wrapping_add, int_wrapping_sub, int_wrapping_mul, int_wrapping_div, int_wrapping_neg}
use Rattle.golf_data.specs.declared.value.Value.{Value}
use Rattle.golf_data.specs.declared.goroutine.PanicKind.{PanicKind}
use Rattle.golf_model.specs.Values.{int_of, bool_of, equality, is_zero}
use Rattle.golf_model.specs.State.{State}
use Rattle.golf_model.specs.Changes.{Change}
use Rattle.golf_model.specs.Actors.{Actor, stands, goes, jumps, leaves, panics, on_some, taking_one, taking_two, choose}

-- `-> v`
abbrev pub pushes : Actor → Value → List Change
pushes a v = goes a (v ∷ a.frame.operands)

-- `-> slot`
abbrev pub loads : Actor → ℕ → List Change
loads a i = leaves a a.frame.operands (slice_get a.frame.slots i)

-- `v ->`
abbrev pub stores : Actor → ℕ → List Change
stores a i =
    taking_one (λ v rest. on_some (λ old. stands a
    (record a.frame { at = a.frame.at + 1; slots = slice_set a.frame.slots i v; operands = rest }))
    (slice_get a.frame.slots i)) a.frame.operands

-- `-> global`
abbrev pub loads_global : Actor → ℕ → State → List Change
loads_global a i s = leaves a a.frame.operands (slice_get s.globals i)

-- `v ->`
abbrev pub stores_global : Actor → ℕ → State → List Change
stores_global a i s = taking_one (λ v rest. on_some (λ old. Change.SetGlobal i v ∷ goes a rest) (slice_get s.globals i))
    a.frame.operands

-- `v ->`, `v -> v, v` and `a, b -> a, b, a, b`
abbrev pub drops : Actor → List Change
drops a = taking_one (λ v rest. goes a rest) a.frame.operands

abbrev pub doubles : Actor → List Change
doubles a = taking_one (λ v rest. goes a (v ∷ v ∷ rest)) a.frame.operands

abbrev pub doubles_two : Actor → List Change
doubles_two a = taking_two (λ x y rest. goes a (y ∷ x ∷ y ∷ x ∷ rest)) a.frame.operands

-- an operation that gives an integer from one integer, and one on truth values
abbrev pub negates : Actor → List Change
negates a = taking_one (λ x rest. on_some (λ n. goes a (Value.Int (int_wrapping_neg w64 n) ∷ rest)) (int_of x))
    a.frame.operands

abbrev pub inverts : Actor → List Change
inverts a = taking_one (λ x rest. on_some (λ b. goes a (Value.Bool (not b) ∷ rest)) (bool_of x)) a.frame.operands

-- takes two integers and acts on them
abbrev pub two_ints : (ℤ → ℤ → List Value → List Change) → List Value → List Change
two_ints act operands = taking_two (λ x y rest. on_some (λ m. on_some (λ n. act m n rest) (int_of y)) (int_of x))
    operands

-- an operation that gives an integer from two integers
abbrev pub computes : (ℤ → ℤ → ℤ) → Actor → List Change
computes op a = two_ints (λ m n rest. goes a (Value.Int (op m n) ∷ rest)) a.frame.operands

-- the same, except that a zero divisor panics
abbrev pub divides : (ℤ → ℤ → ℤ) → Actor → List Change
divides op a = two_ints (λ m n rest. choose (is_zero n) (panics a PanicKind.DivideByZero)
    (goes a (Value.Int (op m n) ∷ rest))) a.frame.operands

-- a comparison that gives a truth value from two integers
abbrev pub compares : (ℤ → ℤ → Bool) → Actor → List Change
compares test a = two_ints (λ m n rest. goes a (Value.Bool (test m n) ∷ rest)) a.frame.operands

-- sums, differences, products and quotients wrap at 64 bits; a quotient is cut off toward zero, and a remainder has the
-- sign of the dividend
abbrev pub sum : ℤ → ℤ → ℤ
sum m n = int_wrapping_add w64 m n

abbrev pub difference : ℤ → ℤ → ℤ
difference m n = int_wrapping_sub w64 m n

abbrev pub product : ℤ → ℤ → ℤ
product m n = int_wrapping_mul w64 m n

abbrev pub quotient : ℤ → ℤ → ℤ
quotient m n = int_wrapping_div w64 m n

abbrev pub remainder : ℤ → ℤ → ℤ
remainder m n = int_rem m n

-- `a, b -> a == b`
abbrev pub equates : Actor → List Change
equates a = taking_two (λ x y rest. on_some (λ b. goes a (Value.Bool b ∷ rest)) (equality x y)) a.frame.operands

-- `b ->`; goes on at the target if b is false
abbrev pub jumps_unless : Actor → ℕ → List Change
jumps_unless a target = taking_one (λ x rest. on_some (λ b. choose b (goes a rest) (jumps a target rest)) (bool_of x))
    a.frame.operands
