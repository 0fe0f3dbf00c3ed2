use Rattle.std.proofs.Common.{ap, ◌∙◌}
use Rattle.golf_run_texts.specs.Texts.{last_line}
use Rattle.golf_run.proofs.Finishing.{status-is}
use Rattle.golf_run.proofs.silent_run.survey.Goals as goal

pub returns : goal.returns
returns g c =
    let course = c.in-Ok.course in record {
      status = status-is course c.args.code.now c.args.options _ _ c.in-Ok.ensures c.status_by.result
          c.status_by.ensures;
      totals = c.in-Ok.ensures.totals;
      line = c.in_ok-line.ensures ∙ ap (λ t. last_line t course.turns course.ending) c.as_slice.ensures
          ∙ c.in-Ok.ensures.line;
    }
