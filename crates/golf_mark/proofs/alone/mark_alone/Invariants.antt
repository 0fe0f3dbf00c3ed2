use Rattle.std.proofs.Common.{◌-◌}
use Rattle.golf_mark.specs.UnderWay.{IsMarkingUnderWay}
use Rattle.golf_mark.proofs.alone.mark_alone.Given as goal

abbrev pub invariant-loop-place : goal.invariant-loop-place
invariant-loop-place g l = IsMarkingUnderWay l.graph l.work l.turn

abbrev pub decreases-loop-place : goal.decreases-loop-place
decreases-loop-place g l = l.work.places - l.turn
