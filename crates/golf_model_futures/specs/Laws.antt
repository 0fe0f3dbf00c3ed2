-- The laws of the plain machine, as statements.
use Rattle.std.specs.Prelude.{◌≡◌, ℕ, ◌<◌, ◌≤◌, ◌⊎◌, Bool, List, []}
use Rattle.golf_theory.specs.Membership.{In}
use Rattle.golf_data.specs.declared.code.Code.{Code}
use Rattle.golf_data.specs.declared.code.Instr.{Instr}
use Rattle.golf_model.specs.State.{State, start, ending}
use Rattle.golf_model.specs.Changes.{Change, apply}
use Rattle.golf_model.specs.Actors.{Actor}
use Rattle.golf_model.specs.Turn.{changes, step}
use Rattle.golf_model.specs.Collections.{plain_collect, cut, sets_finalisers, removed, real_collect}
use Rattle.golf_model.specs.LiveSet.{Node, Live, Dead, dead}
use Rattle.golf_model.specs.Runs.{Event, run, stops, finaliser_calls}
use Rattle.golf_model.specs.Reports.{real_run, real_reports, real_calls, book_of}
use Rattle.golf_model.specs.Futures.{Numbered, Still, Leads, futures}
use Rattle.golf_model_futures.specs.Invariant.{Closed, Confined, Good, Nothing, Sound, Unfinalised, ActorIn, Queueing}
use Rattle.golf_model.specs.Presence.{IsWhole}
use Rattle.golf_model_futures.specs.EarlierOutput.{prefixed}
use Rattle.golf_model_futures.specs.ReportedGoroutines.{TellsOfEach}
use Rattle.golf_model_futures.specs.CutStates.{IsKeptBy, KeepsFresh}

-- a blocked goroutine outside the live set takes no step in any continuation, whatever the events
abbrev pub DeadAreStill : Type 0
DeadAreStill = (code : Code) (s : State) (g : ℕ) → Numbered s → Dead s g → Still code s g

-- every state that moves reach has its numbers in order, and no reference above the last object's number
abbrev pub LeadsNumber : Type 0
LeadsNumber = (code : Code) (s : State) → Leads code s → Numbered s

-- the live nodes, together with all numbers that are not given yet, are closed
abbrev pub LiveIsClosed : Type 0
LiveIsClosed = (s : State) → Numbered s → Closed s (λ o. Live s (Node.AnObject o) ⊎ (s.last_object < o))
    (λ g. Live s (Node.AGoroutine g) ⊎ (s.next_goroutine ≤ g))

-- a change that concerns only members keeps closed sets closed, and leaves everything else as it was
abbrev pub ChangesKeep : Type 0
ChangesKeep = (s : State) (c : Change) (kept stays : ℕ → Bool) → Closed s (IsKeptBy kept) (IsKeptBy stays)
    → Good (IsKeptBy kept) (IsKeptBy stays) Nothing c
    → Closed (apply c s) (IsKeptBy kept) (IsKeptBy stays) × Confined (IsKeptBy kept) (IsKeptBy stays) s (apply c s)

-- the changes of an instruction concern only members of each closed pair of sets that its goroutine belongs to
abbrev pub InstructionsMoveMembers : Type 0
InstructionsMoveMembers = (code : Code) (s : State) (kept stays : ℕ → Bool) → Closed s (IsKeptBy kept) (IsKeptBy stays)
    → (a : Actor) → ActorIn (IsKeptBy kept) (IsKeptBy stays) a → (i : Instr) (choice : ℕ)
    → Sound (IsKeptBy kept) (IsKeptBy stays) (Unfinalised s) s.last_object (changes code i a choice s)

-- an instruction has the same changes in a state without the objects and goroutines outside such sets
abbrev pub InstructionsSame : Type 0
InstructionsSame = (code : Code) (s : State) (kept stays : ℕ → Bool) → Closed s (IsKeptBy kept) (IsKeptBy stays)
    → (a : Actor) → ActorIn (IsKeptBy kept) (IsKeptBy stays) a → (i : Instr) (choice : ℕ)
    → changes code i a choice (cut stays kept s) ≡ changes code i a choice s

-- a collection keeps closed sets closed, once the objects that it queues have joined them
abbrev pub CollectionsKeep : Type 0
CollectionsKeep = (s : State) (kept stays : ℕ → Bool) → Closed s (IsKeptBy kept) (IsKeptBy stays)
    → Closed (plain_collect s) (λ o. IsKeptBy kept o ⊎ Queueing s o) (IsKeptBy stays)

-- a turn keeps closed sets closed, and leaves everything else as it was
abbrev pub TurnsKeep : Type 0
TurnsKeep = (code : Code) (s : State) (k : ℕ) (kept stays : ℕ → Bool) → Closed s (IsKeptBy kept) (IsKeptBy stays)
    → Closed (step code s k) (IsKeptBy kept) (IsKeptBy stays)
    × Confined (IsKeptBy kept) (IsKeptBy stays) s (step code s k)

-- a turn of a state that is cut down to closed sets is that turn, cut down
abbrev pub TurnsCut : Type 0
TurnsCut = (code : Code) (s : State) (k : ℕ) (kept stays : ℕ → Bool) → Closed s (IsKeptBy kept) (IsKeptBy stays)
    → KeepsFresh stays kept s
    → step code (cut stays kept s) k ≡ cut stays kept (step code s k)

-- recovery cannot be seen: after a collection that removes goroutines and frees objects each continuation shows the
-- same as after the plain collection, except for the removed goroutines
abbrev pub RecoveryUnseen : Type 0
RecoveryUnseen = (code : Code) (s : State) (recover : Bool) (events : List Event) → Leads code s
    → futures code (real_collect s recover (sets_finalisers code)) events (removed s recover (sets_finalisers code))
    ≡ futures code (plain_collect s) events (removed s recover (sets_finalisers code))

-- each goroutine that is dead right before a collection of a run takes no step in any continuation from there
abbrev pub ReportedAreStill : Type 0
ReportedAreStill = (code : Code) (events : List Event) (p : State) (g : ℕ) → In p (stops code events) → In g (dead p)
    → Still code p g

-- a real run, whose collections remove goroutines and free objects, agrees with the plain run. It prints the same, ends
-- alike, calls the same finalisers on the same objects in the same order, and its reports are those of the plain run's
-- book
abbrev pub RealRunsAgree : Type 0
RealRunsAgree = (code : Code) (events : List Event) (recover : Bool)
    → ((real_run code events recover).output ≡ (run code (start code) events).output)
    × (ending (real_run code events recover) ≡ ending (run code (start code) events))
    × (real_reports code events recover ≡ book_of (stops code events) recover (sets_finalisers code))
    × (real_calls code events recover ≡ finaliser_calls code (start code) events)

-- the book of a run reports exactly the goroutines that some stop finds dead, each once, at the first such stop
abbrev pub BookTellsOfEach : Type 0
BookTellsOfEach = (code : Code) (events : List Event) (recover : Bool)
    → TellsOfEach [] (stops code events) (book_of (stops code events) recover (sets_finalisers code))

-- in every state of a plain run, and right before each of its collections, each reference is to an object that exists
abbrev pub ReferencesPresent : Type 0
ReferencesPresent = (code : Code) (events : List Event) → IsWhole (run code (start code) events)
    × ((p : State) → In p (stops code events) → IsWhole p)

-- output from before a run changes nothing in the run
abbrev pub PrintingApart : Type 0
PrintingApart = (code : Code) (w : List ℕ) (s : State) (events : List Event)
    → run code (prefixed w s) events ≡ prefixed w (run code s events)
