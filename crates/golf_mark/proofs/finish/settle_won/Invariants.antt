use Rattle.golf_mark.proofs.Settling.{IsSettling, work_of}
use Rattle.golf_mark.proofs.finish.settle_won.Given as goal

abbrev pub invariant-loop-place : goal.invariant-loop-place
invariant-loop-place l = IsSettling l.marks l.initial.scanner l.scanner

abbrev pub decreases-loop-place : goal.decreases-loop-place
decreases-loop-place l = work_of l.marks l.scanner
