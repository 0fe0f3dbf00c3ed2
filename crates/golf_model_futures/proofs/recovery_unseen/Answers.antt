use Rattle.golf_model_futures.proofs.MainLaws as Law
use Rattle.golf_model_futures.proofs.recovery_unseen.Goals as goal

pub returns : goal.returns
returns c = Law.recovery_unseen
