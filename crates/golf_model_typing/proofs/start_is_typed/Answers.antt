use Rattle.golf_model_typing.proofs.Turning.{start-is-typed}
use Rattle.golf_model_typing.proofs.start_is_typed.Goals as goal

pub returns : goal.returns
returns c = start-is-typed
