-- The meaning of the result of a search.
use Rattle.std.specs.Prelude.{◌≡◌, ℕ, ◌+◌, ◌≤◌, Bool, true, false, List, [], length, map, Option, Some, None}
use Rattle.golf_theory.specs.Membership.{any_of}
use Rattle.golf_data.specs.declared.code.Code.{Code}
use Rattle.golf_data.specs.declared.goroutine.Ending.{Ending}
use Rattle.golf_model.specs.State.{State, not_empty, ending, start}
use Rattle.golf_model.specs.LiveSet.{dead}
use Rattle.golf_model.specs.Runs.{Event, run}
use Rattle.golf_explore_laws.specs.After.{after_all}
use Rattle.golf_explore_laws.specs.Laws.{is_panic, is_asleep, NeverEnds, NeverLeaks, NeverReports, ReportsNobody}
use Rattle.golf_explore_laws.specs.Laws.{AlwaysEnds, IsLocalOrAlike}
use Rattle.golf_explore_laws.specs.StandIns.{IsClosedUpTo}
use Rattle.golf_explore.specs.declared.full_search.Exploration.{Exploration}
use Rattle.golf_explore.specs.declared.full_search.Explored.{Explored}
use Rattle.golf_explore.specs.declared.full_search.Visited.{Visited}
use Rattle.golf_explore.specs.declared.visits.Visit.{Visit}
use Rattle.golf_explore.specs.VisitLists.{has_ended_by, states, TurnsHappen, AreVisits, AreDone}

-- the state after the turns of these numbers, with the collections that instructions ask for
abbrev pub run_of : Code → List ℕ → State
run_of code numbers = run code (start code) (map Event.Turn numbers)

-- there is a list of `count` states that is closed up to frame-local turns and alike states
abbrev pub HasClosed : Code → ℕ → Type 0
HasClosed code count = (visited : List State) × IsClosedUpTo code (IsLocalOrAlike code) visited
    × (length visited ≡ count)

-- a run has one of these endings
abbrev pub CanEnd : (Ending → Bool) → Code → Type 0
CanEnd is_one code = (numbers : List ℕ) × (has_ended_by is_one (run_of code numbers) ≡ true)

-- the flag is true if a run has one of these endings, and false only if no run has
abbrev pub Decides : (Ending → Bool) → Code → Bool → Type 0
Decides is_one code true = CanEnd is_one code
Decides is_one code false = NeverEnds is_one code

-- the flag is true only if there is a number of turns after which each run has an ending
abbrev pub EndsIf : Code → Bool → Type 0
EndsIf code true = AlwaysEnds code
EndsIf code false = Unit {0}

-- after some turns, each of which begins before the program has ended, an object has a finaliser
abbrev pub GivesFinaliser : Code → Type 0
GivesFinaliser code = (numbers : List ℕ) × TurnsHappen code (start code) numbers
    × (not_empty (after_all code (start code) numbers).finalisers ≡ true)

-- a visit has one of these endings
abbrev pub some_ended : (Ending → Bool) → List Visit → Bool
some_ended is_one visits = any_of (λ v. has_ended_by is_one v.state) visits

-- the count of the visits, whether some have ended by a panic, and some with all goroutines asleep, and whether they
-- have ranks
pub record CountsVisits (visits : List Visit) (count : ℕ) (ranked : Bool) (told : Visited) : Type 0 where
  pub states : told.states ≡ count
  pub panics : told.panics ≡ some_ended is_panic visits
  pub sleeps : told.sleeps ≡ some_ended is_asleep visits
  pub ends : told.ends ≡ ranked

-- `AllVisited`: no run leaks, the states are counted, and the flags say whether a run panics and whether one falls
-- asleep; if the third flag is true, each run ends. `Leak`: the run of these turns has no ending, and has a dead
-- goroutine. `Finalisers`: some run gives an object one. `TooMany`: it says nothing.
abbrev pub TellsSearch : Code → Explored → Type 0
TellsSearch code (Explored.AllVisited told) =
    NeverLeaks code × NeverReports code × ReportsNobody code × HasClosed code told.states
    × Decides is_panic code told.panics × Decides is_asleep code told.sleeps × EndsIf code told.ends
TellsSearch code (Explored.Leak numbers) = (ending (run_of code numbers) ≡ None) × (dead (run_of code numbers) ≡ [] → ⊥)
TellsSearch code Explored.Finalisers = GivesFinaliser code
TellsSearch code Explored.TooMany = Unit {0}

-- A search over all schedules under way: the visits are reached, and by the edges of the first ones the states after
-- their turns settle in the list.
pub record IsExploring (code : Code) (e : Exploration) : Type 0 where
  pub visits : AreVisits code e.visits.list
  pub within : length e.edges ≤ length e.visits.list
  pub done : AreDone code (states e.visits.list) e.edges

-- the search has gone on: one more visit is done
pub record HasSearchedOn (code : Code) (old new : Exploration) : Type 0 where
  pub exploring : IsExploring code new
  pub one : length new.edges ≡ length old.edges + 1

-- this holds, or the search ends with this result
abbrev pub Unless : Code → Type 0 → Option Explored → Type 0
Unless code P None = P
Unless code P (Some explored) = TellsSearch code explored
