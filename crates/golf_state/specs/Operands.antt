-- The operands of a goroutine's innermost frame, the top one first.
use Rattle.std.specs.Prelude.{ℕ, List, [], ◌∷◌, Option, Some, None}
use Rattle.golf_data.specs.declared.value.Value.{Value}
use Rattle.golf_model.specs.Views.{FrameView}
use Rattle.golf_model.specs.State.{State}
use Rattle.golf_state.specs.Looked.{frames_of}
use Rattle.golf_state.specs.declared.operands.Reference.{Reference}

abbrev pub top_operands : List FrameView → List Value
top_operands [] = []
top_operands (f ∷ fs) = f.operands

-- the operands of the goroutine's innermost frame; empty if there is no frame
abbrev pub operands_of : ℕ → State → List Value
operands_of g s = top_operands (frames_of g s)

-- the top two, the top one second
abbrev pub two_of : List Value → Option (Value × Value)
two_of [] = None
two_of (y ∷ []) = None
two_of (y ∷ x ∷ rest) = Some (x, y)

-- the top three, the top one third
abbrev pub three_of : List Value → Option (Value × Value × Value)
three_of [] = None
three_of (z ∷ []) = None
three_of (z ∷ y ∷ []) = None
three_of (z ∷ y ∷ x ∷ rest) = Some (x, y, z)

-- a reference to an object, nil, or no reference
abbrev pub reference_of : Value → Reference
reference_of Value.Nil = Reference.Nil
reference_of (Value.Ref o) = Reference.To o
reference_of _ = Reference.Misfit
