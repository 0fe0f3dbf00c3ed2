use Rattle.golf_code_never_stuck.proofs.Reaching.{reached-unseen}
use Rattle.golf_code_never_stuck.proofs.reached_recovery_unseen.Goals as goal

pub returns : goal.returns
returns c = reached-unseen
