-- The visits of a search: their states, and the turns that lead to them. Output is not compared.
use Rattle.std.specs.Prelude.{◌≡◌, ℕ, ◌+◌, ◌*◌, ◌<◌, Bool, false, List, [], ◌∷◌, ◌++◌, length, map, Option, Some, None}
use Rattle.std.specs.Prelude.{slice_get}
use Rattle.golf_theory.specs.Membership.{In}
use Rattle.golf_data.specs.declared.code.Code.{Code}
use Rattle.golf_data.specs.declared.goroutine.Ending.{Ending}
use Rattle.golf_model.specs.State.{State, runnable, ending, start}
use Rattle.golf_model.specs.LiveSet.{dead}
use Rattle.golf_explore_laws.specs.After.{silent, after, after_all}
use Rattle.golf_explore_laws.specs.Closed.{after_turn, turn_last_choice, IsTurn, IsPlain}
use Rattle.golf_explore.specs.declared.visits.Came.{Came}
use Rattle.golf_explore.specs.declared.visits.Edge.{Edge}
use Rattle.golf_explore.specs.declared.visits.Visit.{Visit}
use Rattle.golf_explore.specs.Ranks.{SettlesAt, SettlesBy}

-- the visited states
abbrev pub states : List Visit → List State
states visits = map (λ v. silent v.state) visits

-- ---- turns one after another

-- each of these turns begins in a state without an ending
abbrev pub TurnsHappen : Code → State → List ℕ → Type 0
TurnsHappen code s [] = Unit {0}
TurnsHappen code s (n ∷ ns) = (ending s ≡ None) × TurnsHappen code (after code s n) ns

-- each of these turns begins in a state without an ending, and reaches a plain state
abbrev pub GoesPlainly : Code → State → List ℕ → Type 0
GoesPlainly code s [] = Unit {0}
GoesPlainly code s (n ∷ ns) = (ending s ≡ None) × IsPlain (after code s n) × GoesPlainly code (after code s n) ns

-- the turns of these numbers lead from the first state to the second
abbrev pub LeadsTo : Code → State → List ℕ → State → Type 0
LeadsTo code s ns t = (after_all code s ns ≡ t) × GoesPlainly code s ns

-- ---- visits

-- turns lead to the state from an earlier visit
pub record IsNext (code : Code) (visits : List Visit) (at : ℕ) (s : State) (came : Came) : Type 0 where
  pub earlier : came.parent < at
  pub parent : State
  pub stands : slice_get (states visits) came.parent ≡ Some parent
  pub leads : LeadsTo code parent came.numbers s

-- the visit at this place is of the opening state, or turns lead to it from an earlier visit
abbrev pub IsFrom : Code → List Visit → ℕ → State → Option Came → Type 0
IsFrom code visits at s None = s ≡ start code
IsFrom code visits at s (Some came) = IsNext code visits at s came

-- the state has an ending, or it has neither an object with a finaliser nor a dead goroutine
abbrev pub IsWell : State → Type 0
IsWell s = ending s ≡ None → (s.finalisers ≡ []) × (dead s ≡ [])

-- the ending is there, and is one of these
abbrev pub ends_by : (Ending → Bool) → Option Ending → Bool
ends_by is_one None = false
ends_by is_one (Some e) = is_one e

-- the state has one of these endings
abbrev pub has_ended_by : (Ending → Bool) → State → Bool
has_ended_by is_one s = ends_by is_one (ending s)

-- the opening state is visited, turns reach each visited state, and each is well
pub record AreVisits (code : Code) (visits : List Visit) : Type 0 where
  pub opening : In (start code) (states visits)
  pub from : (at : ℕ) (v : Visit) → slice_get visits at ≡ Some v → IsFrom code visits at (silent v.state) v.came
  pub well : (s : State) → In s (states visits) → IsWell s

-- each visit has a lower place than the visits that its turns reach
abbrev pub ParentsBelow : List Visit → Type 0
ParentsBelow visits = (at : ℕ) (v : Visit) (came : Came) → slice_get visits at ≡ Some v → v.came ≡ Some came
    → came.parent < at

-- the turns of these numbers lead from one visit to another
abbrev pub Joins : List Visit → ℕ → List ℕ → ℕ → Type 0
Joins visits here ns at = (code : Code) → AreVisits code visits → (s t : State)
    → slice_get (states visits) here ≡ Some s → slice_get (states visits) at ≡ Some t → LeadsTo code s ns t

-- the turns of these numbers lead from the opening state to the visit
abbrev pub IsPathTo : List Visit → ℕ → List ℕ → Type 0
IsPathTo visits at ns = (code : Code) → AreVisits code visits → (t : State) → slice_get (states visits) at ≡ Some t
    → LeadsTo code (start code) ns t

-- the turns of these numbers lead from the opening state to the state of the visit, which has no ending
pub record IsPathFor (code : Code) (visits : List Visit) (at : ℕ) (path : List ℕ) : Type 0 where
  pub goes : GoesPlainly code (start code) path
  pub stands : slice_get (states visits) at ≡ Some (after_all code (start code) path)
  pub on : ending (after_all code (start code) path) ≡ None

-- These turns lead from the opening state to this one, and the program has not ended before the last one. There is at
-- least one. If this state is plain, so is each state on the way.
pub record IsTrail (code : Code) (numbers : List ℕ) (s : State) : Type 0 where
  pub led : s ≡ after_all code (start code) numbers
  pub goes_on : TurnsHappen code (start code) numbers
  pub goes : IsPlain s → GoesPlainly code (start code) numbers
  pub some : 0 < length numbers

-- ---- a search in progress

-- a visit of this state, by this turn, was added at the end
abbrev pub HasPushed : List Visit → List Visit → State → Option Came → Type 0
HasPushed old new s came = (v : Visit) × (new ≡ old ++ v ∷ []) × (v.state ≡ s) × (v.came ≡ came)

-- visits were added, and only at the end
abbrev pub VisitsGrow : List Visit → List Visit → Type 0
VisitsGrow old new = (more : List Visit) × (new ≡ old ++ more)

-- edges were added, and only at the end
abbrev pub EdgesGrow : List Edge → List Edge → Type 0
EdgesGrow before now = (more : List Edge) × (now ≡ before ++ more)

-- the list has grown, and the state settles in it by an edge that was added
pub record HasAdded (code : Code) (old new : List Visit) (before now : List Edge) (s : State) : Type 0 where
  pub grows : VisitsGrow old new
  pub visits : AreVisits code new
  pub edge : Edge
  pub adds : now ≡ before ++ edge ∷ []
  pub has : SettlesAt code (states new) edge s

-- The list has grown, and so have the edges. By them the states after the turns of the goroutine at this place by the
-- choices below `choices` settle in the list. The number of goroutines that can run is `count`.
pub record HasAddedTurns (code : Code) (old new : List Visit) (before now : List Edge) (s : State)
    (place count choices : ℕ) : Type 0 where
  pub grows : VisitsGrow old new
  pub visits : AreVisits code new
  pub edges : EdgesGrow before now
  pub has : (choice : ℕ) → choice < choices → SettlesBy code (states new) now (after code s (choice * count + place))

-- the state after each turn of this state settles in the list by one of these edges
abbrev pub IsDone : Code → List State → List Edge → State → Type 0
IsDone code visited es s = ending s ≡ None → (place choice : ℕ) → IsTurn code s place choice
    → SettlesBy code visited es (after_turn code s place choice)

-- this holds for each state that has edges
abbrev pub AreDone : Code → List State → List (List Edge) → Type 0
AreDone code visited edges = (at : ℕ) (s : State) (es : List Edge) → slice_get edges at ≡ Some es
    → slice_get visited at ≡ Some s → IsDone code visited es s

-- the list has grown, and by these edges the state after each turn of this state settles in it
pub record HasExpanded (code : Code) (old new : List Visit) (es : List Edge) (s : State) : Type 0 where
  pub grows : VisitsGrow old new
  pub visits : AreVisits code new
  pub done : IsDone code (states new) es s

-- the list has grown, and by edges that were added the state after each turn of the visit at this place settles in it
pub record HasVisited (code : Code) (old new : List Visit) (before now : List (List Edge)) (at : ℕ) : Type 0 where
  pub grows : VisitsGrow old new
  pub visits : AreVisits code new
  pub ways : List Edge
  pub adds : now ≡ before ++ ways ∷ []
  pub done : (s : State) → slice_get (states old) at ≡ Some s → IsDone code (states new) ways s

-- for each goroutine that can run a number above its last choice
pub record HasChoices (code : Code) (s : State) (choices : List ℕ) : Type 0 where
  pub count : length choices ≡ length (runnable s)
  pub each : (place n : ℕ) → slice_get choices place ≡ Some n
      → turn_last_choice code s (slice_get (runnable s) place) < n
