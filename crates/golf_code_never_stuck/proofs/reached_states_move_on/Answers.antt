use Rattle.golf_code_never_stuck.proofs.Reaching.{reached-moves-on}
use Rattle.golf_code_never_stuck.proofs.reached_states_move_on.Goals as goal

pub returns : goal.returns
returns c = reached-moves-on
