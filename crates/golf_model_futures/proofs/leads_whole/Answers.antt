use Rattle.golf_model_futures.proofs.OrderedLeading.{leads-whole}
use Rattle.golf_model_futures.proofs.leads_whole.Goals as goal

pub returns : goal.returns
returns c = leads-whole
