use Rattle.golf_model.specs.Views.{frame_view}
use Rattle.golf_machine.proofs.Moves.{no-mask}
use Rattle.golf_machine.proofs.innermost_turns.clear_in.Goals as goal

pub returns-in_default : goal.returns-in_default
returns-in_default c = no-mask c.args.function.now (frame_view c.args.frame.now) c.in_default.ensures
