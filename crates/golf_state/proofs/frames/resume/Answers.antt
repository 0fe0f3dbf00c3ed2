use Rattle.golf_model.specs.Wakes.{resumed_frame}
use Rattle.golf_state.specs.Looked.{values_of}
use Rattle.golf_state.proofs.Tops.{top_changed}
use Rattle.golf_state.proofs.frames.resume.Goals as goal

pub returns-then-not-is_empty : goal.returns-then-not-is_empty
returns-then-not-is_empty c = top_changed c.args.frames.now c.top_mut.result.now c.resume_frame.new.frame
    (resumed_frame c.args.wait (values_of c.args.given)) c.top_mut.ensures.value c.resume_frame.ensures
