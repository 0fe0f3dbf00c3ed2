use Rattle.golf_syntax_depth.proofs.Files.{within-cost}
use Rattle.golf_syntax_depth.proofs.depth_is_within_cost.Goals as goal

pub returns : goal.returns
returns c = within-cost
