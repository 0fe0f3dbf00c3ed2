use Rattle.golf_model.specs.State.{start}
use Rattle.golf_explore_laws.specs.After.{after_all}
use Rattle.golf_explore.specs.VisitLists.{HasAddedTurns}
use Rattle.golf_explore.proofs.successors.add_choices.Given as goal

-- the turns by the choices so far
abbrev pub invariant-loop-choice : goal.invariant-loop-choice
invariant-loop-choice l = HasAddedTurns l.code l.fn.visits.list l.visits.list l.fn.edges l.edges
    (after_all l.code (start l.code) l.origin.path.now) l.place l.origin.count l.choice
