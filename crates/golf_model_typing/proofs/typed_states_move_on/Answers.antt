use Rattle.golf_model_typing.proofs.Turning.{move-on}
use Rattle.golf_model_typing.proofs.typed_states_move_on.Goals as goal

pub returns : goal.returns
returns c = move-on
