use Rattle.std.proofs.Common.{◌≡◌, drop, map}
use Rattle.golf_model.specs.Views.{frame_view, frame_views}
use Rattle.golf_state_equality.proofs.frames.same_frames.Given as goal

abbrev pub invariant-loop-at : goal.invariant-loop-at
invariant-loop-at l = drop l.at (map frame_view l.frames) ≡ drop l.at (map frame_view l.others)
    → frame_views l.frames ≡ frame_views l.others
