-- The goroutine whose turn it is, its operands, and its deferred calls.
use Rattle.std.specs.Prelude.{◌≡◌, ℕ, cond, List, [], ◌∷◌, length, take, reverse, Option, Some, None, nat_lt}
use Rattle.golf_theory.specs.Maps.{find}
use Rattle.golf_data.specs.declared.value.Value.{Value}
use Rattle.golf_data.specs.declared.code.Code.{Code}
use Rattle.golf_data.specs.declared.goroutine.Deferred.{Deferred}
use Rattle.golf_data.specs.declared.goroutine.Mode.{Mode}
use Rattle.golf_model.specs.State.{State}
use Rattle.golf_model.specs.Changes.{Change}
use Rattle.golf_model.specs.Actors.{Actor}
use Rattle.golf_model.specs.Calls.{begins_deferred}
use Rattle.golf_model.specs.Views.{FrameView}
use Rattle.golf_state.specs.Looked.{frames_of}
use Rattle.golf_state.specs.ActorChanges.{Stands}

-- the goroutine runs and has a frame
abbrev pub Acts : ℕ → State → Type 0
Acts g s = (after : ℕ) × Stands g after s

-- the goroutine runs and has no frame
abbrev pub HasNoFrame : ℕ → State → Type 0
HasNoFrame g s = (started : ℕ) × (find g s.goroutines ≡ Some
    (record { frames = []; mode = Mode.Running; started = started }))

-- the top n operands, in source order, or none if there are fewer
abbrev pub last_of : ℕ → List Value → Option (List Value)
last_of n os = cond (nat_lt (length os) n) None (Some (reverse (take n os)))

-- begins the latest deferred call, if there is one
abbrev pub begins_latest : Code → Actor → List Deferred → List Change
begins_latest code a [] = []
begins_latest code a (d ∷ ds) = begins_deferred code a d ds

abbrev pub top_deferred : List FrameView → List Deferred
top_deferred [] = []
top_deferred (f ∷ fs) = f.deferred

-- the deferred calls of the goroutine's innermost frame, the latest one first
abbrev pub deferred_of : ℕ → State → List Deferred
deferred_of g s = top_deferred (frames_of g s)
