-- The shapes of a function, and frames that have them.
use Rattle.std.specs.Prelude.{◌≡◌, ℕ, Bool, is_some, List, [], map, Option, Some, None, slice_get}
use Rattle.golf_data.specs.declared.code.Function.{Function}
use Rattle.golf_model_typing.specs.Types.{ValueType, Shape, Signature, FunctionTypes, Types, ValuesFit}
use Rattle.golf_model_typing.specs.Shapes.{FunctionFits}
use Rattle.golf_meaning_flat.specs.InstructionEffects.{Frame}

-- the shapes of the places of a function, with the types of the code and of the known objects
pub record Shaping : Type 0 where
  pub types : Types
  pub known : List (ℕ × ValueType)
  pub shapes : List Shape

-- the operands of a frame are of the types of the shape at this place; without shapes nothing is asked
abbrev pub IsShaped : Option Shaping → ℕ → Frame → Type 0
IsShaped None at c = Unit {0}
IsShaped (Some shaping) at c = (sh : Shape) × (slice_get shaping.shapes at ≡ Some sh)
    × ValuesFit shaping.types shaping.known c.operands sh.operands

-- the function fits these types and has these shapes
abbrev pub FitsShaping : Function → Option Shaping → Type 0
FitsShaping fn None = ⊥
FitsShaping fn (Some shaping) = (ft : FunctionTypes) × (ft.shapes ≡ shaping.shapes) × FunctionFits shaping.types fn ft

-- whether each function gives a value
abbrev pub giving : Types → List Bool
giving types = map (λ (sig : Signature). is_some sig.result) types.functions

abbrev pub giving_by : Option Shaping → List Bool
giving_by None = []
giving_by (Some shaping) = giving shaping.types
