use Rattle.std.proofs.Common.{take}
use Rattle.golf_explore.specs.Ranks.{AreLower}
use Rattle.golf_explore.proofs.visit_ranks.are_lower.Given as goal

-- each edge so far falls
abbrev pub invariant-loop-edge : goal.invariant-loop-edge
invariant-loop-edge l = AreLower l.ranks l.rank (take l.edge-index l.edges)
