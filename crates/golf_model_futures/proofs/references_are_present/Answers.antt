use Rattle.golf_model_futures.proofs.MainLaws as Law
use Rattle.golf_model_futures.proofs.references_are_present.Goals as goal

pub returns : goal.returns
returns c = Law.references_are_present
