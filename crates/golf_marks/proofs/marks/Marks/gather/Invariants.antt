use Rattle.std.proofs.Common.{length}
use Rattle.golf_marks.proofs.Closing.{IsGathered}
use Rattle.golf_marks.proofs.marks.Marks.gather.Given as goal

abbrev pub invariant-loop-other : goal.invariant-loop-other
invariant-loop-other l = IsGathered l.self l.fn.seats l.seats l.seat

abbrev pub decreases-loop-other : goal.decreases-loop-other
decreases-loop-other l = length l.seats
