use Rattle.std.proofs.Common.{None}
use Rattle.golf_model.specs.Calls.{returns}
use Rattle.golf_machine.proofs.Frames.{none, returns-done}
use Rattle.golf_machine.proofs.frame_ends.return_without_value.Goals as goal

pub returns-clause-ok : goal.returns-clause-ok
returns-clause-ok c = let line = c.args.acting.line in
    returns-done c.requires line returns None c.return_to.new.state
    (rw (none c.requires line _ c.has_deferred.ensures c.if-has_deferred.false)) (c.in_ok-return_to.ensures.ok line)
