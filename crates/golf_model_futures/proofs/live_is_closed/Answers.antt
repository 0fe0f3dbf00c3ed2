use Rattle.golf_model_futures.proofs.MainLaws as Law
use Rattle.golf_model_futures.proofs.live_is_closed.Goals as goal

pub returns : goal.returns
returns c = Law.live_is_closed
