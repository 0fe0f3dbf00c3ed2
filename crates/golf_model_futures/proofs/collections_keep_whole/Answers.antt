use Rattle.golf_model_futures.proofs.Whole.{whole-real}
use Rattle.golf_model_futures.proofs.collections_keep_whole.Goals as goal

pub returns : goal.returns
returns c = whole-real
