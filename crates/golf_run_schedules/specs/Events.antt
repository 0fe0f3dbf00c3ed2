-- The numbers of a schedule, and the events of a run (profile).
use Rattle.std.specs.Prelude.{ℕ, zero, suc, ◌+◌, ◌-◌, ◌*◌, ◌/◌, ◌%◌, ◌^◌, ◌==◌, ◌&&◌, Bool, true, false, not, List, []}
use Rattle.std.specs.Prelude.{◌∷◌, ◌++◌, ◌≡◌, ◌<◌, ◌≤◌, take, drop, Option, Some, None}
use Rattle.golf_model.specs.Runs.{Event}
use Rattle.golf_run_schedules.specs.declared.schedule.Schedule.{Schedule}
use Rattle.golf_run_schedules.specs.declared.events.Event.{Event as Given}

-- the numbers from k on, as many as the first argument says
abbrev pub rotation : ℕ → ℕ → List ℕ
rotation zero k = []
rotation (suc n) k = k ∷ rotation n (k + 1)

-- one step of a linear congruence modulo 2^64
abbrev pub congruent : ℕ → ℕ
congruent x = (x * 6364136223846793005 + 1442695040888963407) % (2 ^ 64)

-- the numbers after x, as many as the first argument says: each is the upper 31 bits of the next member
abbrev pub congruence : ℕ → ℕ → List ℕ
congruence zero x = []
congruence (suc n) x = congruent x / (2 ^ 33) ∷ congruence n (congruent x)

-- the numbers of a schedule for `turns` turns; written choices may be fewer
abbrev pub numbers : Schedule → ℕ → List ℕ
numbers Schedule.Rotate turns = rotation turns 0
numbers (Schedule.Seed x) turns = congruence turns x
numbers (Schedule.Choices cs) turns = take turns cs

-- whether a collection is due after the k-th turn, if one is after each N-th turn
abbrev pub is_due : Option ℕ → ℕ → Bool
is_due None k = false
is_due (Some n) k = not (n == 0) && k % n == 0

abbrev pub collection_if : Bool → List Event
collection_if true = Event.Collect ∷ []
collection_if false = []

-- the turns with these numbers, the first of which is the k-th, and the collections after them
abbrev pub turns_from : Option ℕ → ℕ → List ℕ → List Event
turns_from every k [] = []
turns_from every k (c ∷ cs) = Event.Turn c ∷ (collection_if (is_due every k) ++ turns_from every (k + 1) cs)

-- the events of a run
abbrev pub events : Schedule → ℕ → Option ℕ → List Event
events schedule turns every = turns_from every 1 (numbers schedule turns)

abbrev pub event_of : Given → Event
event_of (Given.Turn c) = Event.Turn c
event_of Given.Collect = Event.Collect

-- how many of the events are turns
abbrev pub turns_among : List Event → ℕ
turns_among [] = 0
turns_among (Event.Turn c ∷ es) = turns_among es + 1
turns_among (Event.Collect ∷ es) = turns_among es

abbrev pub turns_of : Given → ℕ
turns_of (Given.Turn c) = 1
turns_of Given.Collect = 0

-- ---- the events that are still to come

-- the numbers of the next `more` turns, after `done` turns; a seed is the last member of its congruence so far
abbrev pub numbers_left : Schedule → ℕ → ℕ → List ℕ
numbers_left Schedule.Rotate done more = rotation more done
numbers_left (Schedule.Seed x) done more = congruence more x
numbers_left (Schedule.Choices cs) done more = take more (drop done cs)

-- what is still to come: the schedule after the turns that were given, how many turns there are, how many were given,
-- after which turns a collection is added, and whether one comes next
pub record EventsLeft : Type 0 where
  pub schedule : Schedule
  pub turns : ℕ
  pub done : ℕ
  pub every : Option ℕ
  pub is_collection_next : Bool

abbrev pub events_left : EventsLeft → List Event
events_left e = collection_if e.is_collection_next
    ++ turns_from e.every (e.done + 1) (numbers_left e.schedule e.done (e.turns - e.done))

-- whether the next event is a turn
abbrev pub has_turn_next : List Event → Bool
has_turn_next [] = false
has_turn_next (Event.Turn c ∷ es) = true
has_turn_next (Event.Collect ∷ es) = false

-- up to the turn at this place, no collection comes
pub record IsCalm (calm turns done : ℕ) (every : Option ℕ) (is_collection_next : Bool) : Type 0 where
  pub within : calm ≤ turns
  pub none_due : (k : ℕ) → done < k → k ≤ calm → is_due every k ≡ false
  pub none_next : is_collection_next ≡ true → calm ≤ done
