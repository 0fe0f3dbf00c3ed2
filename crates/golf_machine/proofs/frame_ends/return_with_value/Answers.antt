use Rattle.std.proofs.Common.{Some}
use Rattle.golf_model.specs.Calls.{returns_value}
use Rattle.golf_machine.proofs.Frames.{none, returns-done}
use Rattle.golf_machine.proofs.TurnLaws.{first-is}
use Rattle.golf_machine.proofs.frame_ends.return_with_value.Goals as goal

pub returns-clause-ok : goal.returns-clause-ok
returns-clause-ok c =
    let line = c.args.acting.line in
    let top = rw c.requires.found at c.in-Some.ensures in
    returns-done c.requires line returns_value (Some c.in-Some.value) c.return_to.new.state
    (rw (none c.requires line _ c.has_deferred.ensures c.if-has_deferred.false, first-is _ _ top))
    (c.in_ok-return_to.ensures.ok line)
