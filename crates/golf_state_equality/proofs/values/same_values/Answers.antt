use Rattle.golf_state_equality.proofs.Equal.{values-decide}
use Rattle.golf_state_equality.proofs.values.same_values.Goals as goal

pub returns : goal.returns
returns c = values-decide c.args.values.now c.args.others.now c.eq.result c.eq.ensures
