use Rattle.golf_state_equality.proofs.Equal.{waits-decide}
use Rattle.golf_state_equality.proofs.goroutines.same_waits.Goals as goal

pub returns : goal.returns
returns c = waits-decide c.args.waits.now c.args.others.now c.eq.result c.eq.ensures
