use Rattle.std.proofs.Common.{ap, ◌∙◌}
use Rattle.golf_run_texts.specs.Texts.{history_line}
use Rattle.golf_explore_command.proofs.TracedWrites.{turns-lack, history-whole, numbers-fail, history-cut, history-stopped}
use Rattle.golf_explore_command.proofs.traces.tell_threads.Goals as goal

pub returns-in-Err : goal.returns-in-Err
returns-in-Err g c shows = turns-lack c.args.code.now c.args.threads shows _ _ _ c.end.result c.end.ensures

pub returns-in-Err-history_line : goal.returns-in-Err-history_line
returns-in-Err-history_line g c shows = turns-lack c.args.code.now c.args.threads shows _ _ _
    c.end-in-Err-history_line.result c.end-in-Err-history_line.ensures

pub returns-in-Ok-write_all : goal.returns-in-Ok-write_all
returns-in-Ok-write_all g c shows =
    let h = c.in-Ok-trace.ensures in
    history-whole c.args.code.now c.args.threads c.in-Ok.numbers c.in-Ok.ensures c.history_options-options.result
    c.history_options-options.ensures.options shows _ c.in-Ok-trace.status h.0 h.1 h.2 _ _
    c.as_slice-in-Ok-trace.result.now
    (c.as_slice-in-Ok-trace.ensures ∙ c.in-Ok-history_line.ensures ∙ ap history_line c.as_slice.ensures)
    c.in-Ok-write_all.ensures.ok c.in-Ok-write_all.ensures.cause.steady

pub returns-in-Ok-trace : goal.returns-in-Ok-trace
returns-in-Ok-trace g c shows =
    let h = c.in-Ok-trace.ensures in
    numbers-fail c.args.code.now c.args.threads c.in-Ok.numbers c.in-Ok.ensures c.history_options-options.result
    c.history_options-options.ensures.options shows _ c.in-Ok-trace.status h.0 h.1 h.2 _ _
    c.as_slice-in-Ok-trace.result.now
    (c.as_slice-in-Ok-trace.ensures ∙ c.in-Ok-history_line.ensures ∙ ap history_line c.as_slice.ensures)
    c.in-Err-write_all.ensures.prefix c.in-Err-write_all.ensures.cause.failed

pub returns-in-Err-Write : goal.returns-in-Err-Write
returns-in-Err-Write g c shows =
    history-cut c.args.code.now c.args.threads c.in-Ok.numbers c.in-Ok.ensures c.history_options-options.result
    c.history_options-options.ensures.options shows c.in-Err-Write.field-0 c.in-Err-Write.field-0-is
    c.in-Err-Write.ensures

pub returns : goal.returns
returns g c shows =
    history-stopped c.args.code.now c.args.threads c.in-Ok.numbers c.in-Ok.ensures c.history_options-options.result
    c.history_options-options.ensures.options shows _ c.in-Err-Memory.field-0 c.in-Err-Memory.field-0-is
    c.end-in-Err-Memory.result _ _ c.in-Err-Memory.ensures c.end-in-Err-Memory.ensures
