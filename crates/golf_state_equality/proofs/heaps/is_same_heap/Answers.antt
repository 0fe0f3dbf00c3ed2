use Rattle.golf_state_equality.proofs.Cuts.{so-far}
use Rattle.golf_state_equality.proofs.heaps.is_same_heap.Goals as goal

pub loop-rank-preserved : goal.loop-rank-preserved
loop-rank-preserved c = so-far c.args.heap.now.objects c.args.other.now.objects c.loop-rank.rank
    (c.is_same_entry.ensures.0 c.if-not-is_same_entry.false) c.loop-rank.invariant
