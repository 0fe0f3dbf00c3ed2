use Rattle.golf_state_equality.proofs.Cuts.{reversed}
use Rattle.golf_state_equality.proofs.frames.same_operands.Goals as goal

pub returns : goal.returns
returns c = reversed c.args.operands.now c.args.others.now c.same_values.result c.same_values.ensures
