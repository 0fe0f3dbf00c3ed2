-- Worked examples of schedules.
use Rattle.std.proofs.Common.{◌≡◌, refl, [], ◌∷◌, Some, None}
use Rattle.golf_model.specs.Runs.{Event}
use Rattle.golf_run_schedules.specs.declared.schedule.Schedule.{Schedule}
use Rattle.golf_run_schedules.specs.Events.{numbers, events}

seed_0 : numbers (Schedule.Seed 0) 3 ≡ 167951807 ∷ 218396424 ∷ 1299921937 ∷ []
seed_0 = refl

each_second : events Schedule.Rotate 3 (Some 2) ≡ Event.Turn 0 ∷ Event.Turn 1 ∷ Event.Collect ∷ Event.Turn 2 ∷ []
each_second = refl

fewer_choices : events (Schedule.Choices (7 ∷ 0 ∷ [])) 5 None ≡ Event.Turn 7 ∷ Event.Turn 0 ∷ []
fewer_choices = refl
