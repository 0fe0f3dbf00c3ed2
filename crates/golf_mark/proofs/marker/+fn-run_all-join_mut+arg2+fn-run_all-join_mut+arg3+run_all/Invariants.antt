use Rattle.std.proofs.Common.{length}
use Rattle.golf_mark.proofs.marker.+fn-run_all-join_mut+arg2+fn-run_all-join_mut+arg3+run_all.Given as goal

abbrev pub decreases-join_mut+arg2 : goal.decreases-join_mut+arg2
decreases-join_mut+arg2 g l = length l.back.now

abbrev pub decreases-join_mut+arg3 : goal.decreases-join_mut+arg3
decreases-join_mut+arg3 g l = length l.front.now

abbrev pub decreases-run_all : goal.decreases-run_all
decreases-run_all g l = length l.markers.now
