-- The laws of well-typed states, as statements.
use Rattle.std.specs.Prelude.{◌≡◌, ℕ, Bool, List, [], None}
use Rattle.golf_data.specs.declared.code.Code.{Code}
use Rattle.golf_model.specs.State.{State, start, ending}
use Rattle.golf_model.specs.Turn.{step, MovesOn}
use Rattle.golf_model.specs.Collections.{real_collect}
use Rattle.golf_model.specs.Futures.{Numbered, Leads}
use Rattle.golf_model.specs.Presence.{IsWhole}
use Rattle.golf_model_futures.specs.Orderly.{IsOrderly}
use Rattle.golf_model_typing.specs.Types.{ValueType, Typing}
use Rattle.golf_model_typing.specs.Grows.{Grows}
use Rattle.golf_model_typing.specs.Shapes.{HasShapes}
use Rattle.golf_model_typing.specs.WellTyped.{WellTyped}

-- a well-typed state without an ending moves on, by the turn of any goroutine
abbrev pub TypedStatesMoveOn : Type 0
TypedStatesMoveOn = (code : Code) (types : Typing) (known : List (ℕ × ValueType)) (s : State) (c : ℕ)
    → HasShapes code types → WellTyped types known s → IsWhole s → Numbered s → IsOrderly s → ending s ≡ None
    → MovesOn code s c

-- a turn keeps a state well typed, and known objects stay known
abbrev pub TurnsKeepTypes : Type 0
TurnsKeepTypes = (code : Code) (types : Typing) (known : List (ℕ × ValueType)) (s : State) (c : ℕ)
    → HasShapes code types → WellTyped types known s → IsWhole s → Numbered s → IsOrderly s
    → (later : List (ℕ × ValueType)) × WellTyped types later (step code s c) × Grows known later

-- a collection keeps a state well typed, with and without recovery
abbrev pub CollectionsKeepTypes : Type 0
CollectionsKeepTypes = (types : Typing) (known : List (ℕ × ValueType)) (s : State) → WellTyped types known s
    → Numbered s → (recover sets_finalisers : Bool) → WellTyped types known (real_collect s recover sets_finalisers)

-- the opening state is well typed
abbrev pub StartIsTyped : Type 0
StartIsTyped = (code : Code) (types : Typing) → HasShapes code types → WellTyped types [] (start code)

-- every state that moves reach is well typed
abbrev pub LeadsTyped : Type 0
LeadsTyped = (code : Code) (types : Typing) → HasShapes code types → (s : State) → Leads code s
    → (known : List (ℕ × ValueType)) × WellTyped types known s

-- no state that moves reach from the opening state of a code with shapes is stuck before its ending
abbrev pub NeverStuck : Type 0
NeverStuck = (code : Code) (types : Typing) → HasShapes code types → (s : State) (c : ℕ) → Leads code s
    → ending s ≡ None → MovesOn code s c
