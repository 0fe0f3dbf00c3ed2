use Rattle.std.proofs.Common.{◌≡◌, ℕ, ◌+◌, length, take, map}
use Rattle.golf_theory.specs.Membership.{In}
use Rattle.golf_rows.specs.Rows.{AddsTo}
use Rattle.golf_rows.specs.Rooms.{occurrences, spare_at}
use Rattle.golf_rows.proofs.rooms.RoomyRows.add_to_all.Given as goal

-- the numbers so far have gained the member
abbrev pub invariant-loop-number : goal.invariant-loop-number
invariant-loop-number l = record {
  size : length l.self ≡ length l.fn.self;
  room : (n : ℕ) → spare_at l.self n + occurrences n (take l.number-index l.numbers) ≡ spare_at l.fn.self n;
  added : AddsTo (λ n. In n (take l.number-index l.numbers)) l.member (map (λ row. row.items) l.fn.self)
      (map (λ row. row.items) l.self);
}
