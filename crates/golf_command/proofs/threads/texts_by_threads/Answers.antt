use Rattle.std.proofs.Common.{◌≡◌, ◌++◌, length, ap, ◌∙◌}
use Rattle.golf_run_texts.specs.Texts.{reports_text, last_line, history_line}
use Rattle.golf_run_texts.specs.Output.{anyone_reported, status_by}
use Rattle.golf_command.proofs.Turns.{numbers_in}
use Rattle.golf_command.proofs.Threading.{texts-are}
use Rattle.golf_command.proofs.threads.texts_by_threads.Goals as goal

pub returns : goal.returns
returns g c =
    let h = c.in_ok-state.history in
    let reported : c.anyone_reported.result ≡ anyone_reported h.reports = c.anyone_reported.ensures
    ∙ ap anyone_reported c.as_slice-2.ensures in
    texts-are c.args.code.now c.args.threads c.in_ok-state.state h c.in_ok-state.ensures _ c.as_slice.result.now
    c.as_slice.ensures
    (c.status_by.ensures ∙ (λ i. status_by (reported i) (c.ending-ending.ensures i)))
    (c.in_ok-out.ensures ∙ c.output.ensures)
    (c.in_ok-err.ensures ∙ (λ i. (reports_text h.reports
    ++ last_line c.as_slice.result.now (length h.entries) (c.ending-ending.ensures i))
    ++ history_line (numbers_in h.entries)))
