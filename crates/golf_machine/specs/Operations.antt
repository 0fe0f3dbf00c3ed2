-- Operands that are integers or truth values, and the operations on them.
use Rattle.std.specs.Prelude.{Bool, List, [], ◌∷◌, Option, None, ℤ, int_lt, int_le, option_and_then, option_map}
use Rattle.golf_data.specs.declared.value.Value.{Value}
use Rattle.golf_model.specs.Values.{int_of, bool_of}
use Rattle.golf_model.specs.Arithmetic.{sum, difference, product, quotient, remainder}
use Rattle.golf_machine.specs.declared.arithmetic.Operation.{Operation}
use Rattle.golf_machine.specs.declared.arithmetic.Division.{Division}
use Rattle.golf_machine.specs.declared.arithmetic.Comparison.{Comparison}

-- the top operand, if it is an integer
abbrev pub int_in : List Value → Option ℤ
int_in [] = None
int_in (x ∷ rest) = int_of x

-- the top operand, if it is a truth value
abbrev pub bool_in : List Value → Option Bool
bool_in [] = None
bool_in (x ∷ rest) = bool_of x

-- the top two operands, if both are integers
abbrev pub ints_in : List Value → Option (ℤ × ℤ)
ints_in [] = None
ints_in (y ∷ []) = None
ints_in (y ∷ x ∷ rest) = option_and_then (λ m. option_map (λ n. (m, n)) (int_of y)) (int_of x)

abbrev pub operation_of : Operation → ℤ → ℤ → ℤ
operation_of Operation.Add m n = sum m n
operation_of Operation.Sub m n = difference m n
operation_of Operation.Mul m n = product m n

abbrev pub division_of : Division → ℤ → ℤ → ℤ
division_of Division.Quotient m n = quotient m n
division_of Division.Remainder m n = remainder m n

abbrev pub comparison_of : Comparison → ℤ → ℤ → Bool
comparison_of Comparison.Less m n = int_lt m n
comparison_of Comparison.AtMost m n = int_le m n
