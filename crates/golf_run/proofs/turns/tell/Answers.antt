use Rattle.std.proofs.Common.{subst}
use Rattle.std.specs.Io.KnownBytes.{Appends}
use Rattle.golf_run_texts.specs.Output.{joined}
use Rattle.golf_run.proofs.Tellings.{lines-told, totals-told, collected-told, noted-told, told-failed}
use Rattle.golf_run.proofs.turns.tell.Goals as goal

pub returns-in_err-write_told : goal.returns-in_err-write_told
returns-in_err-write_told g c =
    let recover = c.args.how.collecting.recover in
    let sets = c.args.how.collecting.sets_finalisers in
    let report = c.in_ok-report.report in
    let lines = lines-told recover sets c.args.book.now c.args.state.now c.args.how.why report c.in_ok-why.why
    (c.in_ok-report.ensures.plain_report c.requires.gone) c.in_ok-why.ensures in
    told-failed recover sets c.args.book.now c.args.state.now c.args.how.why _ _ lines (record {
      fault = c.in_err-write_told.field-0.0;
      outcome = c.write_told.result;
      was = c.in_err-write_told.was;
      written = c.write_told.ensures;
      failed = c.from_residual-in_err-write_told.ensures.0;
      same = c.from_residual-in_err-write_told.ensures.1;
    })

pub returns : goal.returns
returns g c =
    let recover = c.args.how.collecting.recover in
    let sets = c.args.how.collecting.sets_finalisers in
    let report = c.in_ok-report.report in
    let lines = lines-told recover sets c.args.book.now c.args.state.now c.args.how.why report c.in_ok-why.why
    (c.in_ok-report.ensures.plain_report c.requires.gone) c.in_ok-why.ensures in (
      totals-told recover sets c.args.book.now c.args.state.now c.collect.new.book report c.totals_after.result
          (c.in_ok-report.ensures.plain_book c.requires.gone)
          (c.in_ok-report.ensures.plain_report c.requires.gone) c.totals_after.ensures,
      collected-told recover sets c.args.book.now c.args.state.now c.collect.new.state c.in_ok-report.ensures.state,
      noted-told recover sets c.args.book.now c.args.state.now c.collect.new.book
          (c.in_ok-report.ensures.plain_book c.requires.gone),
      subst (λ ls. Appends (g.E.Sink.written c.args.err.now) (g.E.Sink.written c.write_told.new.err) (joined ls)) lines
          c.in_ok-write_told.ensures.0,
      c.in_ok-write_told.ensures.1,
    )
