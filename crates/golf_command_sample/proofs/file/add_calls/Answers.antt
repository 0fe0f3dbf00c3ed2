use Rattle.golf_command_sample.proofs.Joins.{more_calls}
use Rattle.golf_command_sample.proofs.file.add_calls.Goals as goal

pub loop-before-preserved : goal.loop-before-preserved
loop-before-preserved c = more_calls _ _ _ c.loop-before.before c.loop-before.invariant c.in_ok-add_call.ensures
