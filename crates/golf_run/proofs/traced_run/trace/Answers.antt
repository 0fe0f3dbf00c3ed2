use Rattle.std.proofs.Common.{ap, ◌∙◌}
use Rattle.golf_run_texts.specs.Texts.{last_line}
use Rattle.golf_run.proofs.Tracings.{last-memory, last-broken, last-whole}
use Rattle.golf_run.proofs.traced_run.trace.Goals as goal

pub returns-in_err-line : goal.returns-in_err-line
returns-in_err-line g c = last-memory c.in_ok-course.course c.args.code.now c.args.options _ _ c.in_ok-course.ensures
    c.from_residual-in_err-line.result c.from_residual-in_err-line.ensures.0 c.from_residual-in_err-line.ensures.1

pub returns-in_err-write_all : goal.returns-in_err-write_all
returns-in_err-write_all g c =
    let course = c.in_ok-course.course in
    let line = c.as_slice-2.ensures ∙ c.in_ok-line.ensures
    ∙ ap (λ t. last_line t course.turns course.ending) c.as_slice.ensures in
    last-broken course c.args.code.now c.args.options _ _ c.in_ok-course.ensures _ line _ _
    c.from_residual-in_err-write_all.result c.from_residual-in_err-write_all.ensures.0
    c.from_residual-in_err-write_all.ensures.1 c.in_err-write_all.ensures.prefix c.in_err-write_all.ensures.cause.failed

pub returns : goal.returns
returns g c =
    let course = c.in_ok-course.course in
    let line = c.as_slice-2.ensures ∙ c.in_ok-line.ensures
    ∙ ap (λ t. last_line t course.turns course.ending) c.as_slice.ensures in
    last-whole course c.args.code.now c.args.options _ _ c.in_ok-course.ensures _ line _ _ c.status_by.result
    c.status_by.ensures c.in_ok-write_all.ensures.ok c.in_ok-write_all.ensures.cause.steady
