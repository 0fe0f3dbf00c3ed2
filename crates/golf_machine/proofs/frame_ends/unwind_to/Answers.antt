use Rattle.std.proofs.Common.{arith}
use Rattle.golf_machine.proofs.Frames.{unwinds-last}
use Rattle.golf_machine.proofs.frame_ends.unwind_to.Goals as goal

pub returns : goal.returns
returns c = λ line. unwinds-last c.requires.1 line c.args.fault c.end.new.state c.finish.new.self (omega arith)
    (c.end.ensures line) c.finish.ensures
