use Rattle.std.proofs.Common.{below_more}
use Rattle.golf_explore.proofs.alike_states.are_paired.Goals as goal

pub loop-at-preserved : goal.loop-at-preserved
loop-at-preserved c = below_more _ _ c.loop-at.invariant (c.is_paired.ensures c.if-not-is_paired.false)
