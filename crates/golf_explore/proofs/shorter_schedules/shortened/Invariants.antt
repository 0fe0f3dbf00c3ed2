use Rattle.golf_explore.specs.Sought.{Shows}
use Rattle.golf_explore.proofs.shorter_schedules.shortened.Given as goal

-- the shortest schedule so far reaches what is sought
abbrev pub invariant-loop-at : goal.invariant-loop-at
invariant-loop-at l = Shows l.code l.sought l.best

-- a turn less is left to be tried
abbrev pub decreases-loop-at : goal.decreases-loop-at
decreases-loop-at l = l.at
