use Rattle.golf_model_typing.proofs.Keeping.{typed-changes}
use Rattle.golf_model_typing.proofs.changes_keep_types.Goals as goal

pub returns : goal.returns
returns c = typed-changes
