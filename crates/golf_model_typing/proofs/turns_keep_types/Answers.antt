use Rattle.golf_model_typing.proofs.Turning.{turns-keep-types}
use Rattle.golf_model_typing.proofs.turns_keep_types.Goals as goal

pub returns : goal.returns
returns c = turns-keep-types
