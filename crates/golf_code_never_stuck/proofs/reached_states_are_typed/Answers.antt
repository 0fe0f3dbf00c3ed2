use Rattle.golf_code_never_stuck.proofs.Reaching.{reached-typed}
use Rattle.golf_code_never_stuck.proofs.reached_states_are_typed.Goals as goal

pub returns : goal.returns
returns c = reached-typed
