use Rattle.golf_model_futures.proofs.OrderedLeading.{leads-orderly}
use Rattle.golf_model_futures.proofs.leads_orderly.Goals as goal

pub returns : goal.returns
returns c = leads-orderly
