use Rattle.golf_model_futures.proofs.MainLaws as Law
use Rattle.golf_model_futures.proofs.printing_is_apart.Goals as goal

pub returns : goal.returns
returns c = Law.printing_is_apart
