use Rattle.golf_state.proofs.Comparisons.{queues-decide}
use Rattle.golf_state.proofs.equality.same_queues.Goals as goal

pub returns : goal.returns
returns c = queues-decide c.args.queue.now c.args.other.now c.eq.result c.eq.ensures
