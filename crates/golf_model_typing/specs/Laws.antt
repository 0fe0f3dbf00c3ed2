-- The law of changes that fit types, as a statement.
use Rattle.std.specs.Prelude.{ℕ, List}
use Rattle.golf_model.specs.State.{State}
use Rattle.golf_model.specs.Changes.{Change, apply_all}
use Rattle.golf_model_typing.specs.Types.{ValueType, Typing}
use Rattle.golf_model_typing.specs.Grows.{Grows}
use Rattle.golf_model_typing.specs.WellTyped.{WellTyped, ChangesFit}

-- changes that fit types leave a well-typed state, in which the new objects are known, and so are all objects that were
-- known before
abbrev pub ChangesKeepTypes : Type 0
ChangesKeepTypes = (types : Typing) (known : List (ℕ × ValueType)) (cs : List Change) (s : State)
    → WellTyped types known s → ChangesFit types known s cs → (later : List (ℕ × ValueType))
    × WellTyped types later (apply_all cs s) × Grows known later
