use Rattle.std.proofs.Common.{◌≡◌, map, take}
use Rattle.golf_model.specs.Views.{frame_view}
use Rattle.golf_state_goroutines.specs.Roominess.{AllRoomy}
use Rattle.golf_state_goroutines.proofs.copies.copied_frames.Given as goal

-- those so far
abbrev pub invariant-loop-frame : goal.invariant-loop-frame
invariant-loop-frame l = record {
  views : map frame_view l.copies ≡ map frame_view (take l.frame-index l.frames);
  room : AllRoomy l.copies;
}
