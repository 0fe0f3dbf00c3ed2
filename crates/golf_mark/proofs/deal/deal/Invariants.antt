use Rattle.std.proofs.Common.{◌≡◌, length, take}
use Rattle.golf_mark.specs.MergedMarkers.{IsRooted, marker_parts}
use Rattle.golf_mark.specs.Ready.{AreFreshMarkers}
use Rattle.golf_mark.proofs.deal.deal.Given as goal

abbrev pub invariant-loop-i : goal.invariant-loop-i
invariant-loop-i l = record {
  size : length l.markers.items ≡ length l.fn.markers.items;
  parts : marker_parts l.markers.items ≡ marker_parts l.fn.markers.items;
  fresh : AreFreshMarkers l.marks l.pool l.markers.items;
  rooted : IsRooted (take l.i l.roots) l.markers.items;
}
