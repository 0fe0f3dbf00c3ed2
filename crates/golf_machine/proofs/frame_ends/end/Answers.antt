use Rattle.golf_machine.proofs.Frames.{ends-zero}
use Rattle.golf_machine.proofs.frame_ends.end.Goals as goal

pub returns-then-g-eq0 : goal.returns-then-g-eq0
returns-then-g-eq0 c = λ line. ends-zero c.requires.1 line _ c.if-g-eq0.true (rw c.clear.ensures)
