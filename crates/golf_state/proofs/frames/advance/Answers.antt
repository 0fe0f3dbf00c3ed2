use Rattle.std.proofs.Common.{[]}
use Rattle.golf_state.specs.FrameChanges.{went}
use Rattle.golf_state.proofs.Tops.{top_changed}
use Rattle.golf_state.proofs.frames.advance.Goals as goal

pub returns-then-not-is_empty : goal.returns-then-not-is_empty
returns-then-not-is_empty c = top_changed c.args.frames.now c.top_mut.result.now c.advance_frame.new.frame
    (went c.args.after c.args.taken []) c.top_mut.ensures.value c.advance_frame.ensures.frame
