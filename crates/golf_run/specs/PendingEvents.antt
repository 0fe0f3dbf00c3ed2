-- The events of a run that are still to come, and how batches of turns take them.
use Rattle.std.specs.Prelude.{◌≡◌, Bool, true, false, List, [], ◌∷◌}
use Rattle.golf_model.specs.Runs.{Event}
use Rattle.golf_run_schedules.specs.Events.{events_left}
use Rattle.golf_run.specs.declared.pending_events.PendingEvents.{PendingEvents}

abbrev pub pending_left : PendingEvents → List Event
pending_left pending = events_left pending.events

-- the next event was a collection, and was taken; or no event is left
abbrev pub HasTakenCollection : Bool → List Event → List Event → Type 0
HasTakenCollection true before after = before ≡ Event.Collect ∷ after
HasTakenCollection false before after = (before ≡ []) × (after ≡ [])
