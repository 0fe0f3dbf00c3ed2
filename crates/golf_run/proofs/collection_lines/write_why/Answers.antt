use Rattle.std.proofs.Common.{◌≡◌, [], ◌∷◌, map, ap, subst, Some, ◌∙◌}
use Rattle.std.specs.Io.KnownBytes.{Appends}
use Rattle.golf_base.specs.Causes.{WritesPrefix}
use Rattle.golf_why.specs.Explanations.{reached_from}
use Rattle.golf_run_texts.specs.Texts.{certificate_line, reached_line}
use Rattle.golf_run.specs.Lines.{HasWritten}
use Rattle.golf_run.specs.Told.{explained_lines}
use Rattle.golf_run.proofs.Lines.{line-broken, one-line, written-after}
use Rattle.golf_run.proofs.collection_lines.write_why.Goals as goal

pub returns-in_err-write_all : goal.returns-in_err-write_all
returns-in_err-write_all g c =
    let e = c.in-Some.why.now in
    let here : explained_lines c.args.number (Some e) ≡ explained_lines c.args.number c.args.why.now =
    ap (explained_lines c.args.number) c.in-Some.ensures.value in
    subst (λ ls. HasWritten c.from_residual-in_err-write_all.result ls (g.E.Sink.written c.args.err.now)
    (g.E.Sink.written c.write_all.new.sink) (g.E.Sink.faults c.args.err.now) (g.E.Sink.faults c.write_all.new.sink))
    here
    (line-broken c.from_residual-in_err-write_all.result (certificate_line c.args.number e.places)
    (map reached_line (reached_from e.graph 0 e.sleeper_entries)) _ _ _ _ c.from_residual-in_err-write_all.ensures.0
    c.from_residual-in_err-write_all.ensures.1
    (subst (WritesPrefix (g.E.Sink.written c.args.err.now) (g.E.Sink.written c.write_all.new.sink))
    (c.as_slice.ensures ∙ c.in_ok-line.ensures ∙ ap (certificate_line c.args.number) c.places.ensures)
    c.in_err-write_all.ensures.prefix) c.in_err-write_all.ensures.cause.failed)

pub returns : goal.returns
returns g c =
    let e = c.in-Some.why.now in
    let here : explained_lines c.args.number (Some e) ≡ explained_lines c.args.number c.args.why.now =
    ap (explained_lines c.args.number) c.in-Some.ensures.value in
    let line = subst (Appends (g.E.Sink.written c.args.err.now) (g.E.Sink.written c.write_all.new.sink))
    (c.as_slice.ensures ∙ c.in_ok-line.ensures ∙ ap (certificate_line c.args.number) c.places.ensures)
    c.in_ok-write_all.ensures.ok in
    subst (λ ls. HasWritten c.write_reached.result ls (g.E.Sink.written c.args.err.now)
    (g.E.Sink.written c.write_reached.new.err) (g.E.Sink.faults c.args.err.now)
    (g.E.Sink.faults c.write_reached.new.err)) here
    (written-after c.write_reached.result (certificate_line c.args.number e.places ∷ [])
    (map reached_line (reached_from e.graph 0 e.sleeper_entries)) _ _ _ _
    (one-line (certificate_line c.args.number e.places) _ _ line) c.in_ok-write_all.ensures.cause.steady
    c.write_reached.ensures)
