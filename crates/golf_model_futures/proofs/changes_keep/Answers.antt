use Rattle.golf_model_futures.proofs.MainLaws as Law
use Rattle.golf_model_futures.proofs.changes_keep.Goals as goal

pub returns : goal.returns
returns c = Law.changes_keep
