-- Types of operands in two spellings.
-- For: `given` and `type_of`, golf_check_types/specs/Types.antt
-- By: cases of the operand and of its type; no induction
use Rattle.std.proofs.Common.{◌≡◌, refl}
use Rattle.std.specs.Prelude.{Option, Some, None}
use Rattle.golf_check_types.specs.declared.types.GoType.{GoType}
use Rattle.golf_check_types.specs.declared.operands.Operand.{Operand}
use Rattle.golf_check_types.specs.declared.operands.Operand.TheVariants as operand
use Rattle.golf_check_types.specs.Types.{given, given_type, type_of, type_given}

back : (t : Option GoType) → type_given (given_type t) ≡ t
back None = refl
back (Some t) = refl

pub types_agree : (m : Operand) → type_given (given m) ≡ type_of m
types_agree (operand.Value t) = back t
types_agree (operand.Outcome t) = back t
types_agree (operand.Constant k b) = refl
types_agree (operand.Truth b) = refl
types_agree (operand.Variable w t) = back t
types_agree (operand.Field i t) = back t
types_agree (operand.Element t) = back t
types_agree operand.Unknown = refl
types_agree operand.Nil = refl
types_agree operand.Blank = refl
types_agree (operand.Nothing late) = refl
types_agree (operand.Function k) = refl
types_agree (operand.Method k) = refl
types_agree (operand.BuiltIn b) = refl
types_agree (operand.Package p) = refl
types_agree (operand.Struct k) = refl
types_agree operand.TypeName = refl
