use Rattle.std.proofs.Common.{[], ◌∷◌, map, subst, ◌∙◌}
use Rattle.std.specs.Io.KnownBytes.{Appends}
use Rattle.golf_base.specs.Causes.{WritesPrefix}
use Rattle.golf_run_texts.specs.Texts.{entry_line, report_line}
use Rattle.golf_run.specs.Lines.{HasWritten}
use Rattle.golf_run.proofs.Lines.{line-broken, one-line, written-after}
use Rattle.golf_run.proofs.collection_lines.write_report.Goals as goal

pub returns-in_err-write_all : goal.returns-in_err-write_all
returns-in_err-write_all g c =
    let r = c.args.report.now in
    line-broken c.from_residual-in_err-write_all.result (report_line r)
    (map entry_line r.reported) _ _ _ _ c.from_residual-in_err-write_all.ensures.0
    c.from_residual-in_err-write_all.ensures.1
    (subst (WritesPrefix (g.E.Sink.written c.args.err.now) (g.E.Sink.written c.write_all.new.sink))
    (c.as_slice.ensures ∙ c.in_ok-line.ensures) c.in_err-write_all.ensures.prefix)
    c.in_err-write_all.ensures.cause.failed

pub returns : goal.returns
returns g c =
    let r = c.args.report.now in
    let line = subst (Appends (g.E.Sink.written c.args.err.now) (g.E.Sink.written c.write_all.new.sink))
    (c.as_slice.ensures ∙ c.in_ok-line.ensures) c.in_ok-write_all.ensures.ok in
    written-after c.write_entries.result (report_line r ∷ []) (map entry_line r.reported) _ _ _ _
    (one-line (report_line r) _ _ line) c.in_ok-write_all.ensures.cause.steady
    (subst (λ es. HasWritten c.write_entries.result (map entry_line es) (g.E.Sink.written c.write_all.new.sink)
    (g.E.Sink.written c.write_entries.new.err) (g.E.Sink.faults c.write_all.new.sink)
    (g.E.Sink.faults c.write_entries.new.err)) c.as_slice-2.ensures c.write_entries.ensures)
