use Rattle.std.proofs.Common.{ℕ, ◌+◌, ◌<◌, get_or}
use Rattle.golf_theory.specs.Membership.{In}
use Rattle.golf_marks.specs.Seats.{known}
use Rattle.golf_mark.specs.ScannerState.{Wins}
use Rattle.golf_mark.proofs.scanner.awaken.Given as goal

abbrev pub invariant-loop-sleeper : goal.invariant-loop-sleeper
invariant-loop-sleeper l = record {
  wins : Wins l.marks l.initial.scanner l.scanner;
  there : (k : ℕ) → k < l.sleeper-index → In (l.nodes + get_or l.sleepers k 0) (known l.scanner.seat);
}
