use Rattle.std.proofs.Common.{subst}
use Rattle.golf_theory.specs.Maps.{IsRising}
use Rattle.golf_blocks.proofs.BlockLaws.{rises-in}
use Rattle.golf_blocks.proofs.map.BlockMap.next.Goals as goal

pub returns-clause-rises : goal.returns-clause-rises
returns-clause-rises g c = subst IsRising c.self.view_is (rises-in 0 c.self.inside.blocks.items c.self.invariant.blocks)
