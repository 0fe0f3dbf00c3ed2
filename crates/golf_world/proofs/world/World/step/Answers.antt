use Rattle.golf_world.proofs.Answers.{exactly}
use Rattle.golf_world.proofs.world.World.step.Goals as goal

pub returns-clause-exactly : goal.returns-clause-exactly
returns-clause-exactly g c = exactly g.W.WorldName.code _ _ _ c.step.ensures.ok c.step.ensures.err
