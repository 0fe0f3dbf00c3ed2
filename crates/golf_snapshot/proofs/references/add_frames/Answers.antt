use Rattle.std.proofs.Common.{refl, arith, ◌∙◌, ap, sym, map, ◌++◌, ◌-◌}
use Rattle.std.proofs.lemmas.List.{length-map, get_or-map}
use Rattle.golf_model.specs.Views.{frame_view}
use Rattle.golf_snapshot.proofs.Gathering.{one-back, past-end, FrameNodes, FramesNodes, frames-cons}
use Rattle.golf_snapshot.proofs.references.add_frames.Goals as goal

pub loop-at-init : goal.loop-at-init
loop-at-init c = past-end c.args.nodes.now (FramesNodes c.args.heap.now.objects)
    (map frame_view c.args.frames.now) _ refl (omega (arith, length-map c.args.frames.now frame_view))

pub loop-at-preserved : goal.loop-at-preserved
loop-at-preserved c =
    let objects = c.args.heap.now.objects in
    let frames = c.args.frames.now in
    one-back (FrameNodes objects) (FramesNodes objects) refl
    (frames-cons objects) c.args.nodes.now c.loop-at.nodes c.add_frame.new.nodes
    (map frame_view frames) c.loop-at.at (frame_view c.index-frames-at.result) (omega (arith, c.loop-at-test.true))
    (omega (arith, c.loop-at.auto.at, length-map frames frame_view)) c.loop-at.invariant
    (c.in_ok-add_frame.ensures ∙ ap (λ f. c.loop-at.nodes ++ FrameNodes objects (frame_view f)) c.index-frames-at.is
    ∙ ap (λ f. c.loop-at.nodes ++ FrameNodes objects f)
    (sym (get_or-map frame_view frames (c.loop-at.at - 1) c.index-frames-at.result
    (frame_view c.index-frames-at.result) (omega (arith, c.loop-at-test.true, c.loop-at.auto.at)))))
