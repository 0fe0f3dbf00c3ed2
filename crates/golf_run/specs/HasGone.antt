-- The result of the events of a run, and their writes.
use Rattle.std.specs.Prelude.{◌≡◌, Result, Ok, Err}
use Rattle.golf_data.specs.declared.code.Code.{Code}
use Rattle.golf_model.specs.State.{ending}
use Rattle.golf_run_schedules.specs.declared.options.RunOptions.{RunOptions}
use Rattle.golf_run_texts.specs.Texts.{last_line}
use Rattle.golf_run_texts.specs.Totals.{totals_of}
use Rattle.golf_run_texts.specs.Output.{last_of, reports_of, end_of}
use Rattle.golf_run_texts.specs.Writes.{event_writes_of, writes_of}
use Rattle.golf_run.specs.declared.fault.RunFault.{RunFault}
use Rattle.golf_run.specs.declared.fault.RunFault.TheVariants as faults
use Rattle.golf_run.specs.declared.turns.Course.{Course}
use Rattle.golf_run.specs.HasRun.{Sinks, GotWrites, IsSteady, WasCut, WasStopped}

-- all events happened, and all their writes were done
pub record WentThrough (course : Course) (code : Code) (options : RunOptions) (old new : Sinks) : Type 0 where
  pub ends : course.ending ≡ ending (last_of code options)
  pub line : last_line code.texts course.turns course.ending ≡ end_of code options
  pub totals : course.totals ≡ totals_of (reports_of code options)
  pub got : GotWrites (event_writes_of code options) old new
  pub steady : IsSteady old new

-- the meaning of the result
abbrev pub HasGone : Result Course RunFault → Code → RunOptions → Sinks → Sinks → Type 0
HasGone (Ok course) code options old new = WentThrough course code options old new
HasGone (Err faults.Write) code options old new = WasCut (writes_of code options) old new
HasGone (Err faults.Memory) code options old new = WasStopped (writes_of code options) old new
