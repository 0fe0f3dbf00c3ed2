use Rattle.golf_state_equality.proofs.Cuts.{reversed}
use Rattle.golf_state_equality.proofs.frames.same_deferred.Goals as goal

pub returns : goal.returns
returns c = reversed c.args.calls.now c.args.others.now c.same_calls.result c.same_calls.ensures
