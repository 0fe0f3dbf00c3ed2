-- The events of written choices with a collection at the end.
use Rattle.std.specs.Prelude.{◌≡◌, ℕ, ◌<◌, ◌≤◌, List, [], ◌∷◌, ◌++◌, length, map, Some}
use Rattle.golf_model.specs.Runs.{Event}
use Rattle.golf_run_schedules.specs.declared.schedule.Schedule.{Schedule}
use Rattle.golf_run_schedules.specs.Events.{events}

-- the turns of these numbers, and then a collection
abbrev pub turns_then_collect : List ℕ → List Event
turns_then_collect ns = map Event.Turn ns ++ Event.Collect ∷ []

-- a run with at least as many turns as choices, and a collection after each turn of that number, has exactly these
-- events
abbrev pub ChoicesThenCollect : Type 0
ChoicesThenCollect = (ns : List ℕ) (turns : ℕ) → 0 < length ns → length ns ≤ turns
    → events (Schedule.Choices ns) turns (Some (length ns)) ≡ turns_then_collect ns
