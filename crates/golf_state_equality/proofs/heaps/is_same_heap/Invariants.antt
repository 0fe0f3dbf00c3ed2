use Rattle.std.proofs.Common.{◌≡◌, drop}
use Rattle.golf_state_equality.proofs.heaps.is_same_heap.Given as goal

abbrev pub invariant-loop-rank : goal.invariant-loop-rank
invariant-loop-rank l = drop l.rank l.heap.objects ≡ drop l.rank l.other.objects → l.heap.objects ≡ l.other.objects
