use Rattle.std.proofs.Common.{ℕ, ◌<◌}
use Rattle.golf_model.specs.State.{start}
use Rattle.golf_explore_laws.specs.Closed.{after_turn, IsTurn}
use Rattle.golf_explore_laws.specs.After.{after_all}
use Rattle.golf_explore.specs.Ranks.{SettlesBy}
use Rattle.golf_explore.specs.VisitLists.{states, AreVisits, VisitsGrow}
use Rattle.golf_explore.proofs.successors.add_places.Given as goal

-- the turns at the places so far
abbrev pub invariant-loop-place : goal.invariant-loop-place
invariant-loop-place l = record {
  grows : VisitsGrow l.fn.visits.list l.visits.list;
  visits : AreVisits l.code l.visits.list;
  has : (place choice : ℕ) → place < l.place
      → IsTurn l.code (after_all l.code (start l.code) l.origin.path.now) place choice
      → SettlesBy l.code (states l.visits.list) l.edges
      (after_turn l.code (after_all l.code (start l.code) l.origin.path.now) place choice);
}
