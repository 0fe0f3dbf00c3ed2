use Rattle.golf_model_futures.proofs.MainLaws as Law
use Rattle.golf_model_futures.proofs.leads_number.Goals as goal

pub returns : goal.returns
returns c = Law.leads_number
