use Rattle.std.proofs.Common.{◌≡◌, ℕ, ◌+◌, length, take, get_or}
use Rattle.golf_rows.specs.Rooms.{occurrences}
use Rattle.golf_rows.proofs.inverses.count_row.Given as goal

-- the members so far are counted
abbrev pub invariant-loop-number : goal.invariant-loop-number
invariant-loop-number l = record {
  size : length l.counts ≡ length l.initial.counts;
  counted : (n : ℕ) → get_or l.counts n 0 ≡ get_or l.initial.counts n 0 + occurrences n (take l.number-index l.row);
}
