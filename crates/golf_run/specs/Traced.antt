-- One event of a run that tells its turns, and all events of it.
use Rattle.std.specs.Prelude.{◌≡◌, ℕ, ◌+◌, ◌⊎◌, Bool, true, List, [], ◌∷◌, ◌++◌, Option, Some, None, Result, Ok, Err}
use Rattle.std.specs.Prelude.{is_some}
use Rattle.golf_data.specs.declared.code.Code.{Code}
use Rattle.golf_model.specs.State.{State, ending}
use Rattle.golf_model.specs.Runs.{Event}
use Rattle.golf_run_schedules.specs.declared.options.RunOptions.{RunOptions}
use Rattle.golf_run_schedules.specs.Events.{turns_among}
use Rattle.golf_run.specs.declared.fault.RunFault.{RunFault}
use Rattle.golf_run.specs.declared.fault.RunFault.TheVariants as faults
use Rattle.golf_run.specs.declared.turns.Course.{Course}
use Rattle.golf_run.specs.declared.traced_run.Accounts.{Accounts}
use Rattle.golf_run.specs.declared.traced_run.Happened.{Happened}
use Rattle.golf_run.specs.OneEvent.{HasTurned}
use Rattle.golf_run.specs.HasGone.{WentThrough}
use Rattle.golf_run.specs.HasRun.{Sinks, sinks, GotWrites, IsSteady, WasCut, WasStopped}
use Rattle.golf_run.specs.TraceWrites.{turn_line_of, lines_if, book_if, totals_if, state_if, event_traces_of, traces_of}

-- this event comes next; or none does, because the program has ended or no event is left
abbrev pub ComesNext : Option Event → State → List Event → List Event → ℕ → ℕ → Type 0
ComesNext None s before after given now = ((is_some (ending s) ≡ true) ⊎ (after ≡ [])) × (after ≡ before)
    × (now ≡ given)
ComesNext (Some e) s before after given now =
    (ending s ≡ None) × (before ≡ e ∷ after) × (now ≡ given + turns_among (e ∷ []))

-- The event happened: the output of its turn was written, and the line of the turn was made. Or it failed. If it is a
-- turn, it is the n-th.
abbrev pub HasHappened : Result Happened RunFault → ℕ → Code → Event → State → State → Option (List ℕ)
    → Option (List ℕ) → ℕ → ℕ → Type 0
HasHappened (Ok h) n code e s after out out' before now =
    (h.line ≡ turn_line_of n code e s) × HasTurned (Ok h.collects) code e s after out out' before now
HasHappened (Err fault) n code e s after out out' before now = HasTurned (Err fault) code e s after out out' before now

-- the collection that follows the event, if one does, was done, and this is the text of the event
pub record HasFollowed (recover sets why : Bool) (h : Happened) (s after : State) (old new : Accounts)
    (text : List ℕ) : Type 0 where
  pub told : text ≡ h.line ++ lines_if recover sets why h.collects old.book s
  pub state : after ≡ state_if recover sets h.collects s
  pub book : new.book ≡ book_if recover sets h.collects old.book s
  pub totals : new.totals ≡ totals_if recover sets h.collects old.book old.totals s

-- two sinks of which nothing is known
abbrev pub nowhere : Sinks
nowhere = sinks None 0 None 0

-- all events happened, as in a run that writes nothing, and all their writes were done
pub record TracedThrough (course : Course) (code : Code) (options : RunOptions) (old new : Sinks) : Type 0 where
  pub went : WentThrough course code options nowhere nowhere
  pub got : GotWrites (event_traces_of code options) old new
  pub steady : IsSteady old new

-- the meaning of the result
abbrev pub HasGoneTraced : Result Course RunFault → Code → RunOptions → Sinks → Sinks → Type 0
HasGoneTraced (Ok course) code options old new = TracedThrough course code options old new
HasGoneTraced (Err faults.Write) code options old new = WasCut (traces_of code options) old new
HasGoneTraced (Err faults.Memory) code options old new = WasStopped (traces_of code options) old new
