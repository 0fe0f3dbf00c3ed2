use Rattle.std.proofs.Common.{ap, ◌∙◌}
use Rattle.golf_run_texts.specs.Texts.{last_line}
use Rattle.golf_run.proofs.Finishing.{passed-on, line-memory, line-broken, line-whole}
use Rattle.golf_run.proofs.written_run.run.Goals as goal

pub returns-in_err-course : goal.returns-in_err-course
returns-in_err-course g c = passed-on c.in_err-course.field-0.0 c.go_through.result c.from_residual.result
    c.args.code.now c.args.options _ _ c.in_err-course.was c.go_through.ensures c.from_residual.ensures.0
    c.from_residual.ensures.1

pub returns-in_err-line : goal.returns-in_err-line
returns-in_err-line g c = line-memory c.in_ok-course.course c.args.code.now c.args.options _ _ c.in_ok-course.ensures
    c.from_residual-in_err-line.result c.from_residual-in_err-line.ensures.0 c.from_residual-in_err-line.ensures.1

pub returns-in_err-write_all : goal.returns-in_err-write_all
returns-in_err-write_all g c =
    let course = c.in_ok-course.course in
    let line = c.as_slice-2.ensures ∙ c.in_ok-line.ensures
    ∙ ap (λ t. last_line t course.turns course.ending) c.as_slice.ensures ∙ c.in_ok-course.ensures.line in
    line-broken course c.args.code.now c.args.options _ _ c.in_ok-course.ensures c.from_residual-in_err-write_all.result
    c.from_residual-in_err-write_all.ensures.0 c.from_residual-in_err-write_all.ensures.1
    _ line _ _ c.in_err-write_all.ensures.prefix c.in_err-write_all.ensures.cause.failed

pub returns : goal.returns
returns g c =
    let course = c.in_ok-course.course in
    let line = c.as_slice-2.ensures ∙ c.in_ok-line.ensures
    ∙ ap (λ t. last_line t course.turns course.ending) c.as_slice.ensures ∙ c.in_ok-course.ensures.line in
    line-whole course c.args.code.now c.args.options _ _ c.in_ok-course.ensures c.status_by.result c.status_by.ensures _
    line _ _ c.in_ok-write_all.ensures.ok c.in_ok-write_all.ensures.cause.steady
