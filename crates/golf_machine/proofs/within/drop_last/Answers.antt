use Rattle.golf_model.specs.Views.{frame_view}
use Rattle.golf_machine.proofs.Inner.{drops-done}
use Rattle.golf_machine.proofs.within.drop_last.Goals as goal

pub returns : goal.returns
returns c = drops-done (frame_view c.args.frame.now) _ _ c.in-Some.ensures c.go_to.ensures
