use Rattle.golf_command_sample_accepted.proofs.Accepting.{accepted}
use Rattle.golf_command_sample_accepted.proofs.always_accepted.Goals as goal

pub returns : goal.returns
returns c = accepted
