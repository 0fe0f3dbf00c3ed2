use Rattle.golf_mark.specs.FinishingScan.{IsIdle, IsPending, KeepsSeat}
use Rattle.golf_mark.specs.ScannerState.{IsCovered}
use Rattle.golf_mark.proofs.finish.settle.Given as goal

abbrev pub invariant-loop-place : goal.invariant-loop-place
invariant-loop-place l = record {
  idle : IsIdle l.marks l.scanner;
  keeps : KeepsSeat l.initial.scanner l.scanner;
  covered : IsCovered l.marks (IsPending l.todo l.place) l.scanner;
}
