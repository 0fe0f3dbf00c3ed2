-- Runs over events: turns and collections.
use Rattle.std.specs.Prelude.{ℕ, ◌/◌, Bool, true, false, List, [], ◌∷◌, ◌++◌, length, is_some, take}
use Rattle.golf_theory.specs.Membership.{any_of}
use Rattle.golf_data.specs.declared.code.Code.{Code}
use Rattle.golf_data.specs.declared.goroutine.Queued.{Queued}
use Rattle.golf_model.specs.State.{State, runnable, ending, start}
use Rattle.golf_model.specs.Changes.{Change}
use Rattle.golf_model.specs.Turn.{whose_turn, turn_changes, wants_collection, step}
use Rattle.golf_model.specs.Collections.{plain_collect}

-- a turn with a number of the schedule, or a collection
pub data Event : Type 0 where
  Turn : (c : ℕ) → Event
  Collect : Event

abbrev pub has_ended : State → Bool
has_ended s = is_some (ending s)

-- a run in which a collection does what the given function says
module _ (collect : State → State) (code : Code) where
  abbrev pub collected_if : Bool → State → State
  collected_if true s = collect s
  collected_if false s = s

  -- a turn, and then the collection that its instruction asks for; a state with an ending stays
  abbrev pub happens_in : Bool → State → Event → State
  happens_in true s e = s
  happens_in false s (Event.Turn c) = collected_if (wants_collection code s c) (step code s c)
  happens_in false s Event.Collect = collect s

  abbrev pub happens_by : State → Event → State
  happens_by s e = happens_in (has_ended s) s e

  -- the state after the events
  abbrev pub run_by : State → List Event → State
  run_by s [] = s
  run_by s (e ∷ es) = run_by (happens_by s e) es

  abbrev pub stop_if : Bool → State → List State
  stop_if true s = s ∷ []
  stop_if false s = []

  abbrev pub stop_in : Bool → State → Event → List State
  stop_in true s e = []
  stop_in false s (Event.Turn c) = stop_if (wants_collection code s c) (step code s c)
  stop_in false s Event.Collect = s ∷ []

  -- the states right before each collection
  abbrev pub stops_by : State → List Event → List State
  stops_by s [] = []
  stops_by s (e ∷ es) = stop_in (has_ended s) s e ++ stops_by (happens_by s e) es

  abbrev pub is_taking : Change → Bool
  is_taking Change.TakeQueued = true
  is_taking _ = false

  abbrev pub first_if : Bool → List Queued → List Queued
  first_if true queue = take 1 queue
  first_if false queue = []

  abbrev pub call_in : Bool → State → Event → List Queued
  call_in true s e = []
  call_in false s (Event.Turn c) = first_if
      (any_of is_taking (turn_changes code (c / length (runnable s)) s (whose_turn s c))) s.queue
  call_in false s Event.Collect = []

  -- the entries that goroutine 0 took from the queue, in order
  abbrev pub calls_by : State → List Event → List Queued
  calls_by s [] = []
  calls_by s (e ∷ es) = call_in (has_ended s) s e ++ calls_by (happens_by s e) es

-- a run of the plain machine, in which a collection frees and removes nothing
abbrev pub happens : Code → State → Event → State
happens = happens_by plain_collect

abbrev pub run : Code → State → List Event → State
run = run_by plain_collect

-- the states right before each collection of the run from the opening state
abbrev pub stops : Code → List Event → List State
stops code es = stops_by plain_collect code (start code) es

abbrev pub finaliser_calls : Code → State → List Event → List Queued
finaliser_calls = calls_by plain_collect
