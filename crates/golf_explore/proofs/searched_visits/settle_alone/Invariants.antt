use Rattle.golf_explore.specs.Sane.{IsSane}
use Rattle.golf_explore.proofs.searched_visits.settle_alone.Given as goal

-- the state so far is sane
abbrev pub invariant-loop : goal.invariant-loop
invariant-loop l = ∥ IsSane l.state ∥₁
