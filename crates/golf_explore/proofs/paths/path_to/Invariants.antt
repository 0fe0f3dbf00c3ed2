use Rattle.std.proofs.Common.{◌<◌, length, reverse}
use Rattle.golf_explore.specs.VisitLists.{Joins}
use Rattle.golf_explore.proofs.paths.path_to.Given as goal

-- the turns so far lead from here to the visit
abbrev pub invariant-loop-here : goal.invariant-loop-here
invariant-loop-here l = record {
  within : l.here < length l.visits;
  joins : Joins l.visits l.here (reverse l.path.items) l.at;
}

abbrev pub decreases-loop-here : goal.decreases-loop-here
decreases-loop-here l = l.here
