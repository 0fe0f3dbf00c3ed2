use Rattle.std.proofs.lemmas.Result.{err_from_is_err_and}
use Rattle.golf_state.specs.Looked.{values_of}
use Rattle.golf_state.specs.FrameChanges.{went}
use Rattle.golf_state.proofs.Tops.{top_changed, top_same}
use Rattle.golf_state.proofs.frames.advance_with.Goals as goal

pub returns-in_err-advance_frame_with-clause-err : goal.returns-in_err-advance_frame_with-clause-err
returns-in_err-advance_frame_with-clause-err c =
    let p = err_from_is_err_and c.from_residual.result c.from_residual.ensures.1 in
    rw p.1 (top_same c.args.frames.now c.top_mut.result.now c.advance_frame_with.new.frame c.top_mut.ensures.value
    c.in_err-advance_frame_with.ensures.err)

pub returns-in_ok-advance_frame_with-clause-ok : goal.returns-in_ok-advance_frame_with-clause-ok
returns-in_ok-advance_frame_with-clause-ok c =
    top_changed c.args.frames.now c.top_mut.result.now c.advance_frame_with.new.frame
    (went c.args.after c.args.taken (values_of c.args.given)) c.top_mut.ensures.value
    c.in_ok-advance_frame_with.ensures.ok
