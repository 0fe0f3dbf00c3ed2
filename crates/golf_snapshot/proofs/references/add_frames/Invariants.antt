use Rattle.std.proofs.Common.{◌≡◌, ◌++◌, drop, reverse, map}
use Rattle.golf_model.specs.Refs.{frames_refs}
use Rattle.golf_model.specs.Views.{frame_view}
use Rattle.golf_snapshot.specs.Parts.{ranks}
use Rattle.golf_snapshot.proofs.references.add_frames.Given as goal

-- the nodes so far
abbrev pub invariant-loop-at : goal.invariant-loop-at
invariant-loop-at l = l.nodes ≡ l.fn.nodes
    ++ ranks l.heap.objects (frames_refs (reverse (drop l.at (map frame_view l.frames))))
