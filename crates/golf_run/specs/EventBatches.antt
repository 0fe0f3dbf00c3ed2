-- Events of a run that happen in one batch.
use Rattle.std.specs.Prelude.{◌≡◌, ℕ, ◌+◌, ◌⊎◌, Bool, true, List, [], ◌∷◌, Option, Some, None, Result, Ok, Err, is_some}
use Rattle.golf_data.specs.declared.code.Code.{Code}
use Rattle.golf_model.specs.State.{State, ending}
use Rattle.golf_model.specs.Runs.{Event}
use Rattle.golf_machine.specs.Batches.{HasGoneOn}
use Rattle.golf_run_schedules.specs.Events.{turns_among}
use Rattle.golf_run.specs.declared.fault.RunFault.{RunFault}
use Rattle.golf_run.specs.OneEvent.{HasTurned}

-- the events before this one were turns after which the run did not have to act, and this state is the one before it
pub record HasComeTo (code : Code) (old : State) (event : Event) (before after : List Event)
    (given now : ℕ) : Type 0 where
  pub state : State
  pub earlier : ℕ
  pub begins : ending old ≡ None
  pub silent : HasGoneOn code old state before (event ∷ after) given earlier
  pub count : now ≡ earlier + turns_among (event ∷ [])

-- the program had ended before; or there were only such turns, and no event is left
abbrev pub HasStopped : Code → State → State → List Event → List Event → ℕ → ℕ → Type 0
HasStopped code old new before after given now =
    ((is_some (ending old) ≡ true) × (new ≡ old) × (after ≡ before) × (now ≡ given))
    ⊎ ((ending old ≡ None) × (after ≡ []) × HasGoneOn code old new before after given now)

-- An event happened after such turns, and its output was written. Or no event is left. Or the event failed.
abbrev pub HasAdvanced : Result (Option Bool) RunFault → Code → State → State → List Event → List Event → ℕ → ℕ
    → Option (List ℕ) → Option (List ℕ) → ℕ → ℕ → Type 0
HasAdvanced (Ok (Some wants)) code old new before after given now out out' f f' = (event : Event)
    × (come : HasComeTo code old event before after given now)
    × HasTurned (Ok wants) code event come.state new out out' f f'
HasAdvanced (Ok None) code old new before after given now out out' f f' = HasStopped code old new before after given now
    × (out' ≡ out) × (f' ≡ f)
HasAdvanced (Err e) code old new before after given now out out' f f' = (event : Event)
    × (come : HasComeTo code old event before after given now)
    × HasTurned (Err e) code event come.state new out out' f f'
