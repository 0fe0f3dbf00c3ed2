use Rattle.golf_code_never_stuck.proofs.Reaching.{reached-goes-on}
use Rattle.golf_code_never_stuck.proofs.reached_states_go_on.Goals as goal

pub returns : goal.returns
returns c = reached-goes-on
