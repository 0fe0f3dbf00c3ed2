use Rattle.golf_state.proofs.Comparisons.{pairs-decide}
use Rattle.golf_state.proofs.equality.same_pairs.Goals as goal

pub returns : goal.returns
returns c = pairs-decide c.args.pairs.now c.args.others.now c.eq.result c.eq.ensures
