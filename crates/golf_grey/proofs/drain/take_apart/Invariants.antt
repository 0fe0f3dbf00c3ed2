use Rattle.std.proofs.Common.{◌≡◌, ◌≤◌, vec_capacity, length}
use Rattle.golf_grey.specs.Hands.{IsTaking}
use Rattle.golf_grey.proofs.drain.take_apart.Given as goal

abbrev pub invariant-loop-number : goal.invariant-loop-number
invariant-loop-number l = record {
  taking : IsTaking l.thieves.items l.capacity l.places l.fn.hands l.rest l.owners.items l.rows.items;
  number : length l.owners.items ≡ l.number;
  owner_room : length l.thieves.items ≤ vec_capacity l.owners;
  row_room : length l.thieves.items ≤ vec_capacity l.rows;
}
