-- The equipment of several markers for one graph.
use Rattle.std.specs.Prelude.{◌≡◌, ℕ, List}
use Rattle.golf_model.specs.declared.graph.GraphParts.{GraphParts}
use Rattle.golf_marks.specs.Seats.{graph_in}
use Rattle.golf_mark.specs.declared.markers.Team.{Team}
use Rattle.golf_mark.specs.Ready.{IsReady}
use Rattle.golf_mark.specs.Waiters.{IsWaiters}

-- no place of this graph is marked, and all that marking it needs is there
pub record IsReadyFor (g : GraphParts) (waiters : List (List ℕ)) (team : Team) : Type 0 where
  pub waiting : IsWaiters g waiters
  pub graph : graph_in team.marks ≡ g
  pub ready : IsReady team.marks team.pool team.markers.items team.hands team.seats
