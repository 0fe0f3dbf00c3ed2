use Rattle.std.proofs.Common.{sym, subst}
use Rattle.golf_state_queues.specs.WaitQueues.{TicketsBelow}
use Rattle.golf_state.proofs.waiters.narrow_queues.Goals as goal
use Rattle.golf_state.proofs.waiters.narrow_queues.Goals.{then-count-were, else-count-were}

pub returns-clause-below : goal.returns-clause-below
returns-clause-below c = λ n b. c.drop_empty.ensures.below n (elim c.if-count-were.branch [
  | then-count-were w ↦ subst (TicketsBelow n) (sym w.queues-is) (w.retain.ensures.below n b)
  | else-count-were w ↦ subst (TicketsBelow n) (sym w.queues-is) b
])
