-- The reasons of all sleepers.
use Rattle.golf_model.specs.declared.graph.GraphParts.{GraphParts}
use Rattle.golf_cert.specs.declared.reasons.Reasons.{Reasons}
use Rattle.golf_cert.specs.LevelWalk.{HasLevels}
use Rattle.golf_cert.specs.Parents.{HasParents}

-- the reasons are those of this graph
pub record HasReasons (g : GraphParts) (r : Reasons) : Type 0 where
  pub levels : HasLevels g r.walk
  pub parents : HasParents g r.walk.levels r.parents
