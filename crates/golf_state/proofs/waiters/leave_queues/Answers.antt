use Rattle.golf_state.proofs.Leaving.{left-blocked, left-running}
use Rattle.golf_state.proofs.waiters.leave_queues.Goals as goal

pub returns-in-Running : goal.returns-in-Running
returns-in-Running c = left-running c.args.g.0 c.args.mode.now c.args.queues.now c.in-Running.is

pub returns-in-Blocked : goal.returns-in-Blocked
returns-in-Blocked c = left-blocked c.args.g.0 c.args.mode.now c.as_slice.result.now c.args.queues.now
    c.leave_all.new.self c.in-Blocked.is c.as_slice.ensures c.leave_all.ensures
