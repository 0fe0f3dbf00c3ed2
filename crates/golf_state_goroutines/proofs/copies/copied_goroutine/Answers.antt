use Rattle.golf_state_goroutines.proofs.Copying.{roomy-room}
use Rattle.golf_state_goroutines.proofs.copies.copied_goroutine.Goals as goal

pub returns-clause-room : goal.returns-clause-room
returns-clause-room c = roomy-room _ c.in_ok-frames.ensures.room
