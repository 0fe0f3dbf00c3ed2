use Rattle.golf_state.proofs.Tops.{top_changed}
use Rattle.golf_state.proofs.frames.exchange.Goals as goal

pub returns-then-not-is_empty : goal.returns-then-not-is_empty
returns-then-not-is_empty c = top_changed c.args.frames.now c.top_mut.result.now c.exchange_last.new.frame _
    c.top_mut.ensures.value c.exchange_last.ensures
