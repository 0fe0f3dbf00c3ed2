use Rattle.std.proofs.Common.{◌≡◌, false, take}
use Rattle.golf_run_texts.specs.Output.{anyone_reported}
use Rattle.golf_run_texts.proofs.runs.anyone_reported.Given as goal

-- none of the reports so far names one
abbrev pub invariant-loop-report : goal.invariant-loop-report
invariant-loop-report l = anyone_reported (take l.report-index l.reports) ≡ false
