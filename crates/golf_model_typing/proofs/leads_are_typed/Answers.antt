use Rattle.golf_model_typing.proofs.Leading.{leads-typed}
use Rattle.golf_model_typing.proofs.leads_are_typed.Goals as goal

pub returns : goal.returns
returns c = leads-typed
