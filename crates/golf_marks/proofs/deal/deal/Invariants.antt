use Rattle.std.proofs.Common.{◌≡◌, ◌+◌, ◌-◌, [], length}
use Rattle.golf_theory.specs.Membership.{Every}
use Rattle.golf_marks.specs.Rule.{view_of}
use Rattle.golf_marks.specs.Seats.{graph_in, IsNewSeatOf}
use Rattle.golf_marks.proofs.deal.deal.Given as goal

abbrev pub invariant-loop : goal.invariant-loop
invariant-loop l = record {
  table : l.first.table_id ≡ l.marks.table.shared.table_id;
  view : l.first.me ≡ (view_of (graph_in l.marks) (l.seats + 1 - l.counter) [] [], []);
  count : length l.list + 1 ≡ l.counter;
  seats : Every (IsNewSeatOf l.marks) l.list;
}
