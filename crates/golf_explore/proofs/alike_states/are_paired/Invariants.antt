use Rattle.golf_explore.specs.AlikeStates.{ArePaired}
use Rattle.golf_explore.proofs.alike_states.are_paired.Given as goal

-- the places so far are paired
abbrev pub invariant-loop-at : goal.invariant-loop-at
invariant-loop-at l = ArePaired l.to l.from l.at
