-- Laws that follow from the clause of a run.
use Rattle.std.specs.Prelude.{◌≡◌, ℕ, true, List, [], map, None, Err}
use Rattle.golf_base.specs.Causes.{WritesPrefix}
use Rattle.golf_data.specs.declared.code.Code.{Code}
use Rattle.golf_model.specs.State.{start, ending}
use Rattle.golf_model.specs.LiveSet.{dead}
use Rattle.golf_model.specs.Runs.{Event, run}
use Rattle.golf_run_schedules.specs.declared.options.RunOptions.{RunOptions}
use Rattle.golf_run_schedules.specs.Laws.{turns_then_collect}
use Rattle.golf_run_texts.specs.Output.{events_of, reports_of, anyone_reported, out_of, err_of}
use Rattle.golf_run_texts.specs.Writes.{out_bytes, err_bytes, writes_of}
use Rattle.golf_run.specs.declared.fault.RunFault.{RunFault}
use Rattle.golf_run.specs.HasRun.{Sinks, HasRun}

-- the writes of a run, for each sink, are its two texts
abbrev pub WritesAreTexts : Type 0
WritesAreTexts = (code : Code) (options : RunOptions) → (out_bytes (writes_of code options) ≡ out_of code options)
    × (err_bytes (writes_of code options) ≡ err_of code options)

-- each sink got a prefix of its text
pub record GotPrefixes (code : Code) (options : RunOptions) (old new : Sinks) : Type 0 where
  pub out : WritesPrefix old.out new.out (out_of code options)
  pub err : WritesPrefix old.err new.err (err_of code options)

-- for every reason to stop early, each sink got a prefix of its text
abbrev pub FaultsLeavePrefixes : Type 0
FaultsLeavePrefixes = (fault : RunFault) (code : Code) (options : RunOptions) (old new : Sinks)
    → HasRun (Err fault) code options old new → GotPrefixes code options old new

-- a run whose last event is a collection of a state with a dead goroutine names a goroutine in a report
abbrev pub LeaksAreReported : Type 0
LeaksAreReported = (code : Code) (options : RunOptions) (ns : List ℕ) → events_of options ≡ turns_then_collect ns
    → ending (run code (start code) (map Event.Turn ns)) ≡ None
    → (dead (run code (start code) (map Event.Turn ns)) ≡ [] → ⊥) → anyone_reported (reports_of code options) ≡ true
