use Rattle.golf_run_texts.specs.Texts.{report_lines}
use Rattle.golf_run.specs.Told.{explained_lines}
use Rattle.golf_run.proofs.Lines.{passed-early, written-after}
use Rattle.golf_run.proofs.collection_lines.write_told.Goals as goal

pub returns-in_err-write_report : goal.returns-in_err-write_report
returns-in_err-write_report g c =
    let r = c.args.report.now in
    passed-early (explained_lines r.number c.args.why.now) (record {
      fault = c.in_err-write_report.field-0.0;
      outcome = c.write_report.result;
      was = c.in_err-write_report.was;
      written = c.write_report.ensures;
      failed = c.from_residual.ensures.0;
      same = c.from_residual.ensures.1;
    })

pub returns : goal.returns
returns g c =
    let r = c.args.report.now in
    written-after c.write_why.result (report_lines r)
    (explained_lines r.number c.args.why.now) _ _ _ _ c.in_ok-write_report.ensures.0 c.in_ok-write_report.ensures.1
    c.write_why.ensures
