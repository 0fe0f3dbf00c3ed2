use Rattle.golf_code_never_stuck.proofs.Reaching.{reached-dead-still}
use Rattle.golf_code_never_stuck.proofs.reached_dead_are_still.Goals as goal

pub returns : goal.returns
returns c = reached-dead-still
