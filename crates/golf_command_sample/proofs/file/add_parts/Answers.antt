use Rattle.golf_command_sample.proofs.Joins.{more_parts}
use Rattle.golf_command_sample.proofs.file.add_parts.Goals as goal

pub loop-before-preserved : goal.loop-before-preserved
loop-before-preserved c = more_parts _ _ _ c.loop-before.before c.loop-before.invariant c.in_ok-add_part.ensures
