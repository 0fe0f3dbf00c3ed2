-- Knowledge about the types of objects grows.
use Rattle.std.specs.Prelude.{ℕ, List}
use Rattle.golf_model_typing.specs.Types.{ValueType, HasType}

-- an object that is known keeps its type
abbrev pub Grows : List (ℕ × ValueType) → List (ℕ × ValueType) → Type 0
Grows known later = (o : ℕ) (t : ValueType) → HasType known o t → HasType later o t
