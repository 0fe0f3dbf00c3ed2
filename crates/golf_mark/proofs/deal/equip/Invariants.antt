use Rattle.std.proofs.Common.{length}
use Rattle.golf_mark.proofs.Readying.{IsEquipping}
use Rattle.golf_mark.proofs.deal.equip.Given as goal

abbrev pub invariant-loop-hand : goal.invariant-loop-hand
invariant-loop-hand l = IsEquipping l.marks l.pool (length l.fn.seats) l.seats l.hands l.markers.items

abbrev pub decreases-loop-hand : goal.decreases-loop-hand
decreases-loop-hand l = length l.hands
