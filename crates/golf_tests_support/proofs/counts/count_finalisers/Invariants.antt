use Rattle.std.proofs.Common.{◌≤◌}
use Rattle.golf_tests_support.proofs.counts.count_finalisers.Given as goal

abbrev pub invariant-loop-number : goal.invariant-loop-number
invariant-loop-number l = l.count ≤ l.number
