use Rattle.golf_state_equality.proofs.Equal.{waits-decide}
use Rattle.golf_explore.proofs.alike_states.same_waits.Goals as goal

pub returns : goal.returns
returns c = (waits-decide c.args.waits.now c.args.others.now c.eq.result c.eq.ensures).0
