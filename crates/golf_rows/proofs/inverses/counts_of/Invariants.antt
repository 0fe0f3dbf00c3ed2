use Rattle.std.proofs.Common.{◌≡◌, ℕ, length, take, get_or}
use Rattle.golf_rows.specs.Rooms.{in_rows}
use Rattle.golf_rows.proofs.inverses.counts_of.Given as goal

-- the rows so far are counted
abbrev pub invariant-loop-at : goal.invariant-loop-at
invariant-loop-at l = record {
  size : length l.counts ≡ l.count;
  counted : (n : ℕ) → get_or l.counts n 0 ≡ in_rows n (take l.at l.rows);
}
