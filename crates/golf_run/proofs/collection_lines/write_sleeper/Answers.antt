use Rattle.std.proofs.Common.{[], map, sym, ap, subst, ◌∙◌}
use Rattle.golf_base.specs.Causes.{WritesPrefix}
use Rattle.golf_why.specs.Explanations.{listed}
use Rattle.golf_run_texts.specs.Texts.{reached_line}
use Rattle.golf_run.specs.Lines.{HasWritten}
use Rattle.golf_run.proofs.Lines.{line-broken}
use Rattle.golf_run.proofs.collection_lines.write_sleeper.Goals as goal

pub returns-in_err-write_all : goal.returns-in_err-write_all
returns-in_err-write_all g c =
    let why = c.args.why.now in
    let reached = c.in-Some.reached in
    let one = ap (map reached_line) (sym (ap listed c.in-Some.is) ∙ c.in_ok-reached.ensures) in
    subst (λ ls. HasWritten c.from_residual-in_err-write_all.result ls (g.E.Sink.written c.args.err.now)
    (g.E.Sink.written c.write_all.new.sink) (g.E.Sink.faults c.args.err.now) (g.E.Sink.faults c.write_all.new.sink))
    one
    (line-broken c.from_residual-in_err-write_all.result
    (reached_line reached) [] _ _ _ _ c.from_residual-in_err-write_all.ensures.0
    c.from_residual-in_err-write_all.ensures.1
    (subst (WritesPrefix (g.E.Sink.written c.args.err.now) (g.E.Sink.written c.write_all.new.sink))
    (c.as_slice.ensures ∙ c.in_ok-line.ensures) c.in_err-write_all.ensures.prefix)
    c.in_err-write_all.ensures.cause.failed)
