use Rattle.std.proofs.Common.{refl, ap, ◌∙◌}
use Rattle.golf_run_texts.specs.Texts.{report_text, reports_text}
use Rattle.golf_run_texts.proofs.Growing.{one-more}
use Rattle.golf_run_texts.proofs.runs.add_reports.Goals as goal

pub loop-report-preserved : goal.loop-report-preserved
loop-report-preserved c =
    one-more report_text reports_text refl
    (λ r rs. refl) c.args.reports.now c.loop-report.report-index c.report-item.result c.args.text.now
    c.loop-report.text c.extend_from_slice.new.self c.as_slice-in-loop-report.result.now c.loop-report-test.true
    c.loop-report.invariant (c.as_slice-in-loop-report.ensures ∙ c.in_ok-report_text.ensures
    ∙ ap report_text c.report-item.is) c.in_ok-extend_from_slice.ensures.ok
