use Rattle.std.proofs.Common.{◌≤◌, ◌+◌, length}
use Rattle.golf_marks.proofs.Flags.{AreNumbers}
use Rattle.golf_marks.proofs.close.numbers_of.Given as goal

abbrev pub invariant-loop-number : goal.invariant-loop-number
invariant-loop-number l = record {
  numbers : AreNumbers l.flags l.number l.numbers.items;
  room : length l.flags ≤ l.numbers.spare + l.number;
}
