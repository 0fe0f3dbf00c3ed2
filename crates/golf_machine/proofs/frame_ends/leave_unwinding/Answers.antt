use Rattle.golf_machine.proofs.Frames.{none, unwinds-fit}
use Rattle.golf_machine.proofs.frame_ends.leave_unwinding.Goals as goal

pub returns-clause-ok : goal.returns-clause-ok
returns-clause-ok c =
    rw (c.requires.1.found, none c.requires.1 c.args.fault.line _ c.has_deferred.ensures c.if-has_deferred.false)
    (rw c.requires.1.found at (c.unwind_to.ensures c.args.fault.line))

pub returns-clause-fits : goal.returns-clause-fits
returns-clause-fits c = unwinds-fit c.requires.1 c.args.fault.line _ c.has_deferred.ensures c.if-has_deferred.false
    c.args.code.now c.args.fault
