use Rattle.golf_model_futures.proofs.Instructions.{keep_changes}
use Rattle.golf_model_futures.proofs.Keeping.{order_change, order-step}
use Rattle.golf_model_futures.proofs.OrderedLeading.{order-real}
use Rattle.golf_model_futures.proofs.order_is_kept.Goals as goal

pub returns-clause-changes : goal.returns-clause-changes
returns-clause-changes c = order_change

pub returns-clause-instructions : goal.returns-clause-instructions
returns-clause-instructions c = λ code i a choice s. keep_changes code a s i choice

pub returns-clause-turns : goal.returns-clause-turns
returns-clause-turns c = order-step

pub returns-clause-collections : goal.returns-clause-collections
returns-clause-collections c = order-real
