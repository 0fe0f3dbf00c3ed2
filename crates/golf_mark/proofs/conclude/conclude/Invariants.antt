use Rattle.std.proofs.Common.{◌≡◌, ◌+◌, ◌≤◌, length, []}
use Rattle.golf_marks.specs.Places.{place_count}
use Rattle.golf_marks.specs.Seats.{graph_in, claimed}
use Rattle.golf_mark.specs.MergedMarkers.{IsGathered, IsHandedOver}
use Rattle.golf_mark.proofs.conclude.conclude.Given as goal

abbrev pub invariant-loop-marker : goal.invariant-loop-marker
invariant-loop-marker l = record {
  gathered : IsGathered l.marks l.fn.markers.items l.rest.items (record { seat = l.scanner.seat; todo = l.todo });
  handed : IsHandedOver l.fn.markers.items l.rest.items l.hands.items;
  idle : l.scanner.won.items ≡ [];
  room : place_count (graph_in l.marks) ≤ length (claimed l.scanner.seat) + l.scanner.won.spare;
  spare : length l.rest.items ≤ l.hands.spare;
}

abbrev pub decreases-loop-marker : goal.decreases-loop-marker
decreases-loop-marker l = length l.rest.items
