use Rattle.golf_state.specs.Inside.{plain_state}
use Rattle.golf_state.proofs.Orders.{numbered}
use Rattle.golf_state.proofs.state.State.heap.Goals as goal

pub returns-clause-numbered : goal.returns-clause-numbered
returns-clause-numbered c =
    rw (← c.self.view_is) (numbered (plain_state c.self.inside) c.count.ensures.numbers c.self.invariant.finalisers
    c.self.invariant.kept.rises c.self.invariant.kept.below)
