-- What no schedule of a code can bring about, and the laws by which lists of states show it.
use Rattle.std.specs.Prelude.{◌≡◌, ℕ, ◌+◌, ◌*◌, ◌%◌, ◌≤◌, Bool, true, false, List, [], ◌∷◌, length, Some, None}
use Rattle.golf_theory.specs.Membership.{In}
use Rattle.golf_data.specs.declared.code.Code.{Code}
use Rattle.golf_data.specs.declared.goroutine.Ending.{Ending}
use Rattle.golf_data.specs.declared.report.Report.{Report}
use Rattle.golf_model.specs.State.{State, runnable, ending, start}
use Rattle.golf_model.specs.Turn.{whose_turn, step}
use Rattle.golf_model.specs.LiveSet.{dead}
use Rattle.golf_model.specs.Runs.{Event, has_ended, run, stops}
use Rattle.golf_model.specs.Reports.{real_reports}
use Rattle.golf_explore_laws.specs.Closed.{IsClosed, NoneDead, NoneEnds, IsRanked, turn_last_choice}
use Rattle.golf_explore_laws.specs.StandIns.{AsksKind, StandsFor, IsAfterLocal, OneOf, IsClosedUpTo, IsRankedUpTo}
use Rattle.golf_explore_laws.specs.Alike.{IsWellOrdered, AreAlike}

-- ---- of every run: any turns, and collections at any places among them

-- no collection finds a dead goroutine
abbrev pub NeverReports : Code → Type 0
NeverReports code = (events : List Event) (p : State) → In p (stops code events) → dead p ≡ []

-- no state without an ending has a dead goroutine
abbrev pub NeverLeaks : Code → Type 0
NeverLeaks code = (events : List Event) → ending (run code (start code) events) ≡ None
    → dead (run code (start code) events) ≡ []

-- no report names a goroutine, with recovery or without
abbrev pub ReportsNobody : Code → Type 0
ReportsNobody code = (events : List Event) (recover : Bool) (r : Report) → In r (real_reports code events recover)
    → r.reported ≡ []

-- no run has one of these endings
abbrev pub NeverEnds : (Ending → Bool) → Code → Type 0
NeverEnds is_one code = (events : List Event) (e : Ending) → ending (run code (start code) events) ≡ Some e
    → is_one e ≡ false

abbrev pub is_panic : Ending → Bool
is_panic (Ending.Panicked kind goroutine line) = true
is_panic _ = false

abbrev pub is_asleep : Ending → Bool
is_asleep Ending.Asleep = true
is_asleep _ = false

-- no run ends by a panic or a fatal error
abbrev pub NeverPanics : Code → Type 0
NeverPanics = NeverEnds is_panic

-- no run ends because no goroutine can run
abbrev pub NeverAllAsleep : Code → Type 0
NeverAllAsleep = NeverEnds is_asleep

-- how many turns the events have
abbrev pub turns_in : List Event → ℕ
turns_in [] = 0
turns_in (Event.Turn c ∷ es) = turns_in es + 1
turns_in (Event.Collect ∷ es) = turns_in es

-- each run of at least this many turns has an ending
abbrev pub EndsWithin : ℕ → Code → Type 0
EndsWithin most code = (events : List Event) → most ≤ turns_in events → has_ended (run code (start code) events) ≡ true

-- there is a number of turns after which each run has an ending
abbrev pub AlwaysEnds : Code → Type 0
AlwaysEnds code = (most : ℕ) × EndsWithin most code

-- ---- laws

-- the turn of any number is a turn of the goroutine at its place, by one of this goroutine's choices
abbrev pub TurnsByChoice : Type 0
TurnsByChoice = (code : Code) (s : State) (c : ℕ) → ending s ≡ None
    → (choice : ℕ) × (choice ≤ turn_last_choice code s (whose_turn s c))
    × (step code s c ≡ step code s (choice * length (runnable s) + c % length (runnable s)))

-- the state after a frame-local turn stands for the one before it
abbrev pub LocalTurnsStandFor : Type 0
LocalTurnsStandFor = (code : Code) → StandsFor code (IsAfterLocal code)

-- a closed list is closed up to states after frame-local turns, and ranks fall so
abbrev pub ClosedUpToLocal : Type 0
ClosedUpToLocal = (code : Code) (visited : List State) → IsClosed code visited
    → IsClosedUpTo code (IsAfterLocal code) visited

abbrev pub RankedUpToLocal : Type 0
RankedUpToLocal = (code : Code) (ranked : List (State × ℕ)) (most : ℕ) → IsRanked code ranked most
    → IsRankedUpTo code (IsAfterLocal code) ranked most

abbrev pub ClosedListsNeverLeak : Type 0
ClosedListsNeverLeak = (code : Code) (visited : List State) → IsClosed code visited → NoneDead visited → NeverLeaks code

abbrev pub ClosedListsNeverReport : Type 0
ClosedListsNeverReport = (code : Code) (visited : List State) → IsClosed code visited → NoneDead visited
    → NeverReports code

abbrev pub ClosedListsReportNobody : Type 0
ClosedListsReportNobody = (code : Code) (visited : List State) → IsClosed code visited → NoneDead visited
    → ReportsNobody code

abbrev pub ClosedListsNeverEnd : Type 0
ClosedListsNeverEnd = (code : Code) (visited : List State) (is_one : Ending → Bool) → IsClosed code visited
    → NoneEnds is_one visited → NeverEnds is_one code

abbrev pub ClosedListsNeverPanic : Type 0
ClosedListsNeverPanic = (code : Code) (visited : List State) → IsClosed code visited → NoneEnds is_panic visited
    → NeverPanics code

abbrev pub ClosedListsNeverSleep : Type 0
ClosedListsNeverSleep = (code : Code) (visited : List State) → IsClosed code visited → NoneEnds is_asleep visited
    → NeverAllAsleep code

abbrev pub RankedListsEnd : Type 0
RankedListsEnd = (code : Code) (ranked : List (State × ℕ)) (most : ℕ) → IsRanked code ranked most → EndsWithin most code

abbrev pub RankedListsAlwaysEnd : Type 0
RankedListsAlwaysEnd = (code : Code) (ranked : List (State × ℕ)) (most : ℕ) → IsRanked code ranked most
    → AlwaysEnds code

-- ---- laws of alike states

-- each of two alike states stands for the other
abbrev pub AlikeStatesStandFor : Type 0
AlikeStatesStandFor = (code : Code) → StandsFor code AreAlike

abbrev pub AlikeBack : Type 0
AlikeBack = (s t : State) → AreAlike s t → AreAlike t s

abbrev pub AlikeThen : Type 0
AlikeThen = (s t u : State) → AreAlike s t → AreAlike t u → AreAlike s u

-- a state in order is alike to itself, if its next goroutine is not one of the first two
abbrev pub AlikeSelf : Type 0
AlikeSelf = (s : State) → IsWellOrdered s → 2 ≤ s.next_goroutine → AreAlike s s

-- the second state is the one after a frame-local turn of the first, or is alike to it
abbrev pub IsLocalOrAlike : Code → State → State → Type 0
IsLocalOrAlike code = OneOf (IsAfterLocal code) AreAlike

abbrev pub AlikeListsNeverLeak : Type 0
AlikeListsNeverLeak = (code : Code) (visited : List State) → IsClosedUpTo code (IsLocalOrAlike code) visited
    → NoneDead visited → NeverLeaks code

abbrev pub AlikeListsNeverReport : Type 0
AlikeListsNeverReport = (code : Code) (visited : List State) → IsClosedUpTo code (IsLocalOrAlike code) visited
    → NoneDead visited → NeverReports code

abbrev pub AlikeListsReportNobody : Type 0
AlikeListsReportNobody = (code : Code) (visited : List State) → IsClosedUpTo code (IsLocalOrAlike code) visited
    → NoneDead visited → ReportsNobody code

abbrev pub AlikeListsNeverEnd : Type 0
AlikeListsNeverEnd = (code : Code) (visited : List State) (is_one : Ending → Bool)
    → IsClosedUpTo code (IsLocalOrAlike code) visited → AsksKind is_one → NoneEnds is_one visited
    → NeverEnds is_one code

abbrev pub AlikeRankedListsEnd : Type 0
AlikeRankedListsEnd = (code : Code) (ranked : List (State × ℕ)) (most : ℕ)
    → IsRankedUpTo code (IsLocalOrAlike code) ranked most → EndsWithin most code
