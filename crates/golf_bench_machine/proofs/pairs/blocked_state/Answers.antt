use Rattle.golf_model_futures.proofs.Leading.{leads-numbered}
use Rattle.golf_model_futures.proofs.OrderedLeading.{leads-whole}
use Rattle.golf_bench_machine.proofs.pairs.blocked_state.Goals as goal

pub returns-clause-numbered : goal.returns-clause-numbered
returns-clause-numbered c = leads-numbered c.in_ok-code.code c.in_ok-state.state c.in_ok-state.ensures

pub returns-clause-whole : goal.returns-clause-whole
returns-clause-whole c = leads-whole c.in_ok-code.code c.in_ok-state.state c.in_ok-state.ensures
