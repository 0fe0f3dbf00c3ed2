use Rattle.golf_model_futures.proofs.MainLaws as Law
use Rattle.golf_model_futures.proofs.collections_keep.Goals as goal

pub returns : goal.returns
returns c = Law.collections_keep
