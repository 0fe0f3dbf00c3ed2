use Rattle.golf_machine.proofs.Frames.{none, leaves-fit}
use Rattle.golf_machine.proofs.frame_ends.leave_returning.Goals as goal

pub returns-clause-ok : goal.returns-clause-ok
returns-clause-ok c =
    rw (c.requires.1.found, none c.requires.1 c.args.line _ c.has_deferred.ensures c.if-has_deferred.false)
    (rw c.requires.1.found at (c.in_ok-return_to.ensures.ok c.args.line))

pub returns-clause-fits : goal.returns-clause-fits
returns-clause-fits c = leaves-fit c.requires.1 c.args.line _ c.has_deferred.ensures c.if-has_deferred.false
    c.args.code.now c.args.value
