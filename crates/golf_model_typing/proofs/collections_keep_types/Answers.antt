use Rattle.golf_model_typing.proofs.Leading.{typed-real}
use Rattle.golf_model_typing.proofs.collections_keep_types.Goals as goal

pub returns : goal.returns
returns c = typed-real
