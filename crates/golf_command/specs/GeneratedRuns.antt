-- The run of a generated file, and its texts (profile).
use Rattle.std.specs.Prelude.{ℕ, true, false, List, [], ◌∷◌, None}
use Rattle.golf_data.specs.declared.code.Code.{Code}
use Rattle.golf_run_schedules.specs.declared.schedule.Schedule.{Schedule}
use Rattle.golf_run_schedules.specs.declared.options.RunOptions.{RunOptions}
use Rattle.golf_run_schedules.specs.Options.{most_turns}
use Rattle.golf_command_sample.specs.declared.summary.Summary.{Summary}
use Rattle.golf_command_sample.specs.File.{file as generated_file, summary}
use Rattle.golf_command_sample.specs.Lines.{newlines}
use Rattle.golf_run_texts.specs.declared.totals.Totals.{Totals}
use Rattle.golf_run_texts.specs.Totals.{totals_of}
use Rattle.golf_run_texts.specs.Output.{reports_of, end_of}
use Rattle.golf_run_texts.specs.Writes.{Write}

-- the options of the run: in rotation, by four markers, with recovery
unfoldable pub generated_options : RunOptions
generated_options = record {
  schedule = Schedule.Rotate;
  turns = most_turns;
  every = None;
  markers = 4;
  recover = true;
  why = false;
}

-- the numbers of the run of the generated file of n parts
abbrev pub summed_up : ℕ → Totals → Summary
summed_up n t = record {
  parts = n;
  lines = newlines (generated_file n);
  collections = t.collections;
  reported = t.reported;
  kept = t.kept;
  reclaimed = t.reclaimed;
  objects = t.objects;
}

-- the summary line of the run
unfoldable pub generated_summary : ℕ → Code → List ℕ
generated_summary n code = summary (summed_up n (totals_of (reports_of code generated_options)))

-- the summary line goes to standard output, and the last line of the run goes to standard error
unfoldable pub generated_writes : ℕ → Code → List Write
generated_writes n code = Write.ToOut (generated_summary n code) ∷ Write.ToErr (end_of code generated_options) ∷ []
