use Rattle.std.proofs.Common.{◌≡◌, ◌++◌, take}
use Rattle.golf_run_texts.specs.Texts.{reports_text}
use Rattle.golf_run_texts.proofs.runs.add_reports.Given as goal

-- the texts so far
abbrev pub invariant-loop-report : goal.invariant-loop-report
invariant-loop-report l = l.text ≡ l.fn.text ++ reports_text (take l.report-index l.reports)
