use Rattle.std.proofs.Common.{sym, ◌∙◌}
use Rattle.golf_explore.proofs.Settled.{turn-local}
use Rattle.golf_explore.proofs.frame_local_turns.is_turn_local.Goals as goal

pub returns : goal.returns
returns c = λ is. turn-local c.args.code.now c.args.state.now c.args.number _ c.whose_turn.ensures
    (sym c.is_goroutine_local.ensures ∙ is)
