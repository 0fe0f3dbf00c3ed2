-- The summary of a run that wrote nothing.
use Rattle.std.specs.Prelude.{◌≡◌}
use Rattle.golf_data.specs.declared.code.Code.{Code}
use Rattle.golf_run_schedules.specs.declared.options.RunOptions.{RunOptions}
use Rattle.golf_run_texts.specs.Totals.{totals_of}
use Rattle.golf_run_texts.specs.Output.{reports_of, end_of, status_of}
use Rattle.golf_run.specs.declared.silent_run.RunSummary.{RunSummary}

pub record IsRunSummary (outcome : RunSummary) (code : Code) (options : RunOptions) : Type 0 where
  pub status : outcome.status ≡ status_of code options
  pub totals : outcome.totals ≡ totals_of (reports_of code options)
  pub line : outcome.line ≡ end_of code options
