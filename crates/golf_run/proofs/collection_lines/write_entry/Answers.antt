use Rattle.std.proofs.Common.{[], subst, ◌∙◌}
use Rattle.golf_base.specs.Causes.{WritesPrefix}
use Rattle.golf_run_texts.specs.Texts.{entry_line}
use Rattle.golf_run.proofs.Lines.{line-broken}
use Rattle.golf_run.proofs.collection_lines.write_entry.Goals as goal

pub returns-in_err-write_all : goal.returns-in_err-write_all
returns-in_err-write_all g c =
    line-broken c.from_residual-in_err-write_all.result
    (entry_line c.args.entry.now) [] _ _ _ _ c.from_residual-in_err-write_all.ensures.0
    c.from_residual-in_err-write_all.ensures.1
    (subst (WritesPrefix (g.E.Sink.written c.args.err.now) (g.E.Sink.written c.write_all.new.sink))
    (c.as_bytes.ensures.value ∙ c.in_ok-line.ensures) c.in_err-write_all.ensures.prefix)
    c.in_err-write_all.ensures.cause.failed
