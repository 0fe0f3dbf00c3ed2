use Rattle.golf_explore_command.proofs.TracedWrites.{trace-whole, trace-cut, trace-stopped}
use Rattle.golf_explore_command.proofs.traces.tell_turns.Goals as goal

pub returns-in-Ok : goal.returns-in-Ok
returns-in-Ok g c shows = trace-whole c.args.code.now c.args.options shows c.in-Ok.status c.in-Ok.ensures.0
    c.in-Ok.ensures.1 c.in-Ok.ensures.2

pub returns-in-Err-Write : goal.returns-in-Err-Write
returns-in-Err-Write g c shows = trace-cut c.args.code.now c.args.options shows c.in-Err-Write.field-0
    c.in-Err-Write.field-0-is c.in-Err-Write.ensures

pub returns-in-Err-Memory : goal.returns-in-Err-Memory
returns-in-Err-Memory g c shows = trace-stopped c.args.code.now c.args.options shows _ c.in-Err-Memory.field-0
    c.in-Err-Memory.field-0-is c.end.result _ _ c.in-Err-Memory.ensures c.end.ensures
