-- Calls, goroutines, deferred calls and returns (Go specification, "Calls", "Go statements", "Defer statements",
-- "Return statements", "Handling panics").
use Rattle.std.specs.Prelude.{ℕ, ◌+◌, Bool, true, false, List, [], ◌∷◌, ◌++◌, length, Option, Some, None, ◌==◌, nat_le}
use Rattle.golf_data.specs.declared.value.Value.{Value}
use Rattle.golf_data.specs.declared.code.Code.{Code}
use Rattle.golf_data.specs.declared.goroutine.Deferred.{Deferred}
use Rattle.golf_data.specs.declared.goroutine.Ending.{Ending}
use Rattle.golf_data.specs.declared.goroutine.Fault.{Fault}
use Rattle.golf_data.specs.declared.goroutine.Leaving.{Leaving}
use Rattle.golf_data.specs.declared.goroutine.Mode.{Mode}
use Rattle.golf_data.specs.declared.goroutine.PanicKind.{PanicKind}
use Rattle.golf_model.specs.Views.{FrameView}
use Rattle.golf_model.specs.State.{call_frame}
use Rattle.golf_model.specs.Wakes.{unwinding}
use Rattle.golf_model.specs.Changes.{Change}
use Rattle.golf_model.specs.Actors.{Actor, with_frames, next, stands, goes, dies, on_some, taking_one, taking, choose}

-- the most frames of a goroutine (this runtime's rule)
abbrev pub most_frames : ℕ
most_frames = 10000

-- whether one more frame is too many
abbrev pub is_full : List FrameView → Bool
is_full frames = nat_le most_frames (length frames)

-- adds a frame on top of these; if they are too many already, the stack overflows
abbrev pub enters : Actor → List FrameView → FrameView → List Change
enters a frames f = choose (is_full frames) (dies a PanicKind.StackOverflow)
    (Change.Become a.number (with_frames a (f ∷ frames)) ∷ [])

-- calls function f with n arguments
abbrev pub calls : Code → Actor → ℕ → ℕ → List Change
calls code a f n =
    taking n (λ arguments rest. on_some (enters a (next a.frame rest ∷ a.callers)) (call_frame code f arguments false))
    a.frame.operands

-- starts a goroutine on function f with n arguments
abbrev pub spawns : Code → Actor → ℕ → ℕ → List Change
spawns code a f n =
    taking n (λ arguments rest. on_some (λ x. Change.Spawn
    (record { frames = x ∷ []; mode = Mode.Running; started = a.line }) ∷ goes a rest)
    (call_frame code f arguments true)) a.frame.operands

-- defers a call of function f with n arguments
abbrev pub defers : Actor → ℕ → ℕ → List Change
defers a f n =
    taking n (λ arguments rest. stands a (record
    a.frame {
      at = a.frame.at + 1;
      operands = rest;
      deferred = record { function = f; arguments = arguments }
          ∷ a.frame.deferred;
    })) a.frame.operands

-- a goroutine without frames has ended; goroutine 0 stays and waits for its queue
abbrev pub ends : Actor → List Change
ends a = choose (a.number == 0) (Change.Become 0 (with_frames a []) ∷ []) (Change.Leave a.number ∷ [])

-- the program ends when goroutine 1 does
abbrev pub ends_returning : Actor → List Change
ends_returning a = ends a ++ choose (a.number == 1) (Change.Finish Ending.Returned ∷ []) []

-- the value of a frame goes to its caller, unless the frame discards it
abbrev pub handed_back : Bool → Option Value → FrameView → FrameView
handed_back true v f = f
handed_back false None f = f
handed_back false (Some v) f = record f { operands = v ∷ f.operands }

-- the innermost frame returns and is removed
abbrev pub returns_to : Actor → Option Value → List FrameView → List Change
returns_to a v [] = ends_returning a
returns_to a v (f ∷ fs) = Change.Become a.number (with_frames a (handed_back a.frame.discards v f ∷ fs)) ∷ []

-- the innermost frame unwinds and is removed: its caller now unwinds, whatever it was doing, and the program ends when
-- the last frame is removed
abbrev pub unwinds_to : Actor → Fault → List FrameView → List Change
unwinds_to a x [] = ends a ++ (Change.Finish (Ending.Panicked x.kind (record { 0 = a.number }) x.line) ∷ [])
unwinds_to a x (f ∷ fs) = Change.Become a.number (with_frames a (unwinding x f ∷ fs)) ∷ []

-- without deferred calls a return removes the frame; with deferred calls the frame is marked as returning
abbrev pub returns_by : Actor → Option Value → List Value → List Deferred → List Change
returns_by a v rest [] = returns_to a v a.callers
returns_by a v rest (d ∷ ds) = stands a (record
    a.frame { at = a.frame.at + 1; operands = rest; leaving = Leaving.Returning v })

-- `->`
abbrev pub returns : Actor → List Change
returns a = returns_by a None a.frame.operands a.frame.deferred

-- `v ->`
abbrev pub returns_value : Actor → List Change
returns_value a = taking_one (λ v rest. returns_by a (Some v) rest a.frame.deferred) a.frame.operands

-- begins the latest deferred call and removes it from the list
abbrev pub begins_deferred : Code → Actor → Deferred → List Deferred → List Change
begins_deferred code a d ds = on_some (enters a (record a.frame { deferred = ds } ∷ a.callers))
    (call_frame code d.function d.arguments true)

-- the turn of a goroutine whose innermost frame is returning, or unwinding
abbrev pub leaves_returning : Code → Actor → Option Value → List Deferred → List Change
leaves_returning code a v [] = returns_to a v a.callers
leaves_returning code a v (d ∷ ds) = begins_deferred code a d ds

abbrev pub leaves_unwinding : Code → Actor → Fault → List Deferred → List Change
leaves_unwinding code a x [] = unwinds_to a x a.callers
leaves_unwinding code a x (d ∷ ds) = begins_deferred code a d ds
