use Rattle.golf_state_queues.proofs.Held.{held-any}
use Rattle.golf_state_queues.proofs.holders.has_anyone.Goals as goal

pub returns : goal.returns
returns c = held-any c.end_of.result c.args.holders.now c.end_of.ensures.within c.end_of.ensures.same
    c.end_of.ensures.last
