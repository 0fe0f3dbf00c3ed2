use Rattle.golf_model_futures.proofs.MainLaws as Law
use Rattle.golf_model_futures.proofs.reported_are_still.Goals as goal

pub returns : goal.returns
returns c = Law.reported_are_still
