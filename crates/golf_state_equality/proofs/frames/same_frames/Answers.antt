use Rattle.std.proofs.Common.{◌<◌, map, length, arith}
use Rattle.golf_model.specs.Views.{frame_view}
use Rattle.golf_state_equality.proofs.Cuts.{place-same, same-place, so-far, straight}
use Rattle.golf_state_equality.proofs.frames.same_frames.Goals as goal

pub returns-then-not-is_same_frame : goal.returns-then-not-is_same_frame
returns-then-not-is_same_frame c =
    let within : c.loop-at.at < length c.args.frames.now = omega (arith, c.loop-at-test.true) in
    let other_within : c.loop-at.at < length c.args.others.now =
    omega (arith, c.loop-at-test.true, c.if-frames-others.false) in (
      λ t. cc,
      λ e.
          let same = same-place frame_view c.args.frames.now c.args.others.now c.loop-at.at c.index-frames-at.result
          c.index-others-at.result
          within other_within c.index-frames-at.is c.index-others-at.is
          (straight (map frame_view c.args.frames.now) (map frame_view c.args.others.now) e) in
          cc (c.is_same_frame.ensures.1 same, c.if-not-is_same_frame.true),
    )

pub loop-at-preserved : goal.loop-at-preserved
loop-at-preserved c =
    let within : c.loop-at.at < length c.args.frames.now = omega (arith, c.loop-at-test.true) in
    let other_within : c.loop-at.at < length c.args.others.now =
    omega (arith, c.loop-at-test.true, c.if-frames-others.false) in
    so-far (map frame_view c.args.frames.now) (map frame_view c.args.others.now) c.loop-at.at
    (place-same frame_view c.args.frames.now c.args.others.now c.loop-at.at c.index-frames-at.result
    c.index-others-at.result
    within other_within c.index-frames-at.is c.index-others-at.is
    (c.is_same_frame.ensures.0 c.if-not-is_same_frame.false))
    c.loop-at.invariant
