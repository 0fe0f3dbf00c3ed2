use Rattle.golf_model.specs.Views.{frame_view}
use Rattle.golf_machine.proofs.TurnLaws.{stands-at}
use Rattle.golf_machine.proofs.goroutine_turn.act_nowhere.Goals as goal

pub leave_returning-requires : goal.leave_returning-requires
leave_returning-requires c = (_, stands-at c.requires.runs (frame_view c.in-Some.frame.now) c.in-Some.ensures)

pub leave_unwinding-requires : goal.leave_unwinding-requires
leave_unwinding-requires c = (_, stands-at c.requires.runs (frame_view c.in-Some.frame.now) c.in-Some.ensures)
