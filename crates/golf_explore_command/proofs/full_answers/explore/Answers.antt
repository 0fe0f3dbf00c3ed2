use Rattle.std.proofs.Common.{subst}
use Rattle.golf_explore.specs.Results.{Unless}
use Rattle.golf_explore_command.proofs.full_answers.explore.Goals as goal

pub loop-preserved : goal.loop-preserved
loop-preserved g c = (
  (subst (Unless c.args.code.now _) c.in_default.is c.in_ok-explored.ensures).exploring,
  c.in_ok-told.ensures _ _ c.loop.invariant.1,
)
