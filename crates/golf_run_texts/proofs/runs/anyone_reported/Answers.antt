use Rattle.std.proofs.Common.{sym, ap, ◌∙◌, refl, true≢false}
use Rattle.golf_data.specs.declared.report.Report.{Report}
use Rattle.golf_run_texts.proofs.Anyone.{none-more, one-named}
use Rattle.golf_run_texts.proofs.runs.anyone_reported.Goals as goal

pub returns-then-not-is_empty : goal.returns-then-not-is_empty
returns-then-not-is_empty c =
    one-named c.args.reports.now c.loop-report.report-index c.report-item.result c.loop-report-test.true
    (λ h. true≢false (sym (c.if-not-is_empty.ensures.1 (ap (λ (r : Report). r.reported) c.report-item.is ∙ h))))

pub loop-report-preserved : goal.loop-report-preserved
loop-report-preserved c =
    none-more c.args.reports.now c.loop-report.report-index c.report-item.result c.loop-report.invariant
    (ap (λ (r : Report). r.reported) (sym c.report-item.is) ∙ c.if-not-is_empty.ensures.0 refl)
