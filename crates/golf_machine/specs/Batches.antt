-- Turns that are taken in one batch.
use Rattle.std.specs.Prelude.{◌≡◌, ℕ, ◌+◌, Bool, true, false, List, [], ◌∷◌, ◌++◌, length, map, Option, Some, None}
use Rattle.golf_data.specs.declared.value.Value.{Value}
use Rattle.golf_data.specs.declared.code.Code.{Code}
use Rattle.golf_model.specs.Views.{FrameView}
use Rattle.golf_model.specs.State.{State, runnable, ending, not_empty}
use Rattle.golf_model.specs.Turn.{step, wants_collection}
use Rattle.golf_model.specs.Runs.{Event}
use Rattle.golf_machine.specs.Turns.{turned_of}
use Rattle.golf_machine.specs.InnermostTurns.{MoveEach, MoveInside}
use Rattle.golf_machine.specs.declared.turns.Turned.{Turned}

-- whether the next event is a turn
abbrev pub is_turn_next : List Event → Bool
is_turn_next [] = false
is_turn_next (Event.Turn c ∷ es) = true
is_turn_next (Event.Collect ∷ es) = false

abbrev pub turn_events : List ℕ → List Event
turn_events cs = map (λ c. Event.Turn c) cs

-- the result of the turn of this number
abbrev pub outcome_of : Code → State → ℕ → Turned
outcome_of code s c = turned_of (ending (step code s c)) (wants_collection code s c)

-- whether the caller must act after a turn: it ended the program, it was a collection, or something is printed
abbrev pub needs_outside : Turned → List ℕ → Bool
needs_outside Turned.Went printed = not_empty printed
needs_outside Turned.WantsCollection printed = true
needs_outside (Turned.Ended e) printed = true

abbrev pub stops_after : Code → State → ℕ → Bool
stops_after code s c = needs_outside (outcome_of code s c) (step code s c).output

-- the state after the turns of these numbers
abbrev pub steps : Code → State → List ℕ → State
steps code s [] = s
steps code s (c ∷ cs) = steps code (step code s c) cs

-- after none of these turns the caller must act
abbrev pub GoOn : Code → State → List ℕ → Type 0
GoOn code s [] = Unit {0}
GoOn code s (c ∷ cs) = (stops_after code s c ≡ false) × GoOn code (step code s c) cs

-- exactly the turns of the numbers that were given were taken, and after none of them the caller must act
pub record HasGoneOn (code : Code) (old new : State) (before after : List Event) (given now : ℕ) : Type 0 where
  pub taken : List ℕ
  pub order : before ≡ turn_events taken ++ after
  pub count : now ≡ given + length taken
  pub silent : GoOn code old taken
  pub state : new ≡ steps code old taken

-- with this frame and these globals, exactly the turns of the numbers that were given were taken, and each touched only
-- the frame
pub record HasKeptInside (code : Code) (globals : List Value) (f h : FrameView) (before after : List Event)
    (given now : ℕ) : Type 0 where
  pub taken : List ℕ
  pub order : before ≡ turn_events taken ++ after
  pub count : now ≡ given + length taken
  pub moves : MoveInside code globals taken f h

-- with these frames and globals, exactly the turns of the numbers that were given were taken, and each touched only the
-- innermost frame
pub record HasKeptOn (code : Code) (globals : List Value) (fs hs : List FrameView) (before after : List Event)
    (given now : ℕ) : Type 0 where
  pub taken : List ℕ
  pub order : before ≡ turn_events taken ++ after
  pub count : now ≡ given + length taken
  pub moves : MoveEach code globals taken fs hs

-- only this goroutine can run, and the output is empty
pub record IsLone (g : ℕ) (s : State) : Type 0 where
  pub alone : runnable s ≡ g ∷ []
  pub quiet : s.output ≡ []

-- one more number was given, and P held before it; or no turn comes next
abbrev pub HasAsked : Option ℕ → (List Event → ℕ → Type 0) → List Event → ℕ → Type 0
HasAsked None P after now = P after now × (is_turn_next after ≡ false)
HasAsked (Some c) P after now = (earlier : ℕ) × P (Event.Turn c ∷ after) earlier × (now ≡ earlier + 1)

-- turns were taken, and then one more number was given, in this state
pub record HasCome (code : Code) (old : State) (before after : List Event) (given now : ℕ) : Type 0 where
  pub state : State
  pub number : ℕ
  pub earlier : ℕ
  pub went : HasGoneOn code old state before (Event.Turn number ∷ after) given earlier
  pub one_more : now ≡ earlier + 1

-- no turn was left; or the caller must act after the last turn
abbrev pub HasTaken : Option Turned → Code → State → State → List Event → List Event → ℕ → ℕ → Type 0
HasTaken None code old new before after given now = HasGoneOn code old new before after given now
    × (is_turn_next after ≡ false)
HasTaken (Some turned) code old new before after given now =
    (last : HasCome code old before after given now) × (new ≡ step code last.state last.number)
    × (turned ≡ outcome_of code last.state last.number) × (stops_after code last.state last.number ≡ true)

-- memory ran out for the last turn, and the state is the one before it
abbrev pub HasNoMemory : Code → State → State → List Event → List Event → ℕ → ℕ → Type 0
HasNoMemory code old new before after given now = (last : HasCome code old before after given now) × (new ≡ last.state)
