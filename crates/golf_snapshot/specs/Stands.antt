-- The relation between the places of a state's graph and the live set of the state.
use Rattle.std.specs.Prelude.{◌≡◌, ℕ, ◌+◌, List, length, Some, slice_get, ◌↔◌}
use Rattle.golf_data.specs.declared.value.Object.{Object}
use Rattle.golf_model.specs.Views.{GoroutineView}
use Rattle.golf_model.specs.State.{State}
use Rattle.golf_model.specs.Reach.{Reach, sources}
use Rattle.golf_model.specs.LiveSet.{Node, Live}
use Rattle.golf_model.specs.Graph.{Least}
use Rattle.golf_model.specs.Presence.{IsWhole}
use Rattle.golf_model.specs.declared.graph.GraphParts.{GraphParts}
use Rattle.golf_model.specs.Futures.{Numbered}
use Rattle.golf_snapshot.specs.Parts.{sleeping, live_parts, retained_parts}

-- the object of a node
abbrev pub IsObject : State → ℕ → ℕ → Type 0
IsObject s k o = (x : Object) × (slice_get s.objects k ≡ Some (o, x))

-- the goroutine of a sleeper
abbrev pub IsSleeper : State → ℕ → ℕ → Type 0
IsSleeper s j g = (r : GoroutineView) × (slice_get (sleeping s) j ≡ Some (g, r))

-- a node is in the graph's least closed set exactly when its object is live, and a sleeper exactly when its goroutine
-- is
pub record LivesAlike (g : GraphParts) (s : State) : Type 0 where
  pub objects : (k o : ℕ) → IsObject s k o → Least g k ↔ Live s (Node.AnObject o)
  pub goroutines : (j h : ℕ) → IsSleeper s j h → Least g (length s.objects + j) ↔ Live s (Node.AGoroutine h)

-- this holds in every state whose references are all to objects that are there
abbrev pub LiveGraph : Type 0
LiveGraph = (s : State) → Numbered s → IsWhole s → LivesAlike (live_parts s) s

-- a node is in the graph's least closed set exactly when its object is reached without these goroutines
abbrev pub ReachesAlike : GraphParts → State → List ℕ → Type 0
ReachesAlike g s gone = (k o : ℕ) → IsObject s k o → Least g k ↔ Reach s (sources s gone) o

abbrev pub RetainedGraph : Type 0
RetainedGraph = (s : State) (gone : List ℕ) → Numbered s → IsWhole s → ReachesAlike (retained_parts s gone) s gone
