use Rattle.golf_state.proofs.Tops.{top_changed}
use Rattle.golf_state.proofs.cleared_slots.clear_top.Goals as goal

pub returns-then-not-is_empty : goal.returns-then-not-is_empty
returns-then-not-is_empty c = top_changed c.args.frames.now c.top_mut.result.now c.clear_frame.new.frame _
    c.top_mut.ensures.value c.clear_frame.ensures
