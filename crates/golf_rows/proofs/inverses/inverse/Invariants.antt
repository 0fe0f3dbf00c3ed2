use Rattle.std.proofs.Common.{◌≡◌, ℕ, drop, map}
use Rattle.golf_rows.specs.Rows.{row_of, IsInverseBelow}
use Rattle.golf_rows.specs.Rooms.{in_rows, spare_at}
use Rattle.golf_rows.proofs.inverses.inverse.Given as goal

-- the rows so far are entered, and there is room for just the others
abbrev pub invariant-loop-at : goal.invariant-loop-at
invariant-loop-at l = record {
  room : (n : ℕ) → spare_at l.inverse n ≡ in_rows n (drop l.at l.rows);
  entered : IsInverseBelow l.at l.count (row_of l.rows) (map (λ row. row.items) l.inverse);
}
