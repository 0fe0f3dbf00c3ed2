use Rattle.golf_model.specs.Views.{frame_views}
use Rattle.golf_machine.proofs.Moves.{turn-by}
use Rattle.golf_machine.proofs.innermost_turns.inner_turn.Goals as goal

pub returns-clause-ok : goal.returns-clause-ok
returns-clause-ok c =
    let lent = c.frames_and_globals-frames.ensures in
    turn-by c.args.code.now c.args.g.0 c.args.state.now c.requires.runs _ (frame_views c.turn_on_top.new.frames)
    lent.rises lent.value lent.same c.in_ok-tried.tried (rw lent.globals at c.in_ok-tried.ensures.ok)
