-- The graph of a state: a node for each object, by its rank, and a sleeper for each blocked goroutine except for
-- goroutine 0.
use Rattle.std.specs.Prelude.{ℕ, Bool, not, ◌||◌, List, [], ◌∷◌, ◌++◌, map, filter, ◌==◌}
use Rattle.golf_base.specs.declared.ids.ObjectId.{ObjectId}
use Rattle.golf_data.specs.declared.value.Object.{Object}
use Rattle.golf_theory.specs.Maps.{rank}
use Rattle.golf_model.specs.Views.{GoroutineView}
use Rattle.golf_model.specs.Values.{refs}
use Rattle.golf_model.specs.Waiters.{waits_of}
use Rattle.golf_model.specs.State.{State, is_running}
use Rattle.golf_model.specs.Refs.{object_refs, goroutine_refs, waited, queue_refs, refs_if, refs_where, has_finaliser}
use Rattle.golf_model.specs.Reach.{sources}
use Rattle.golf_model.specs.declared.graph.GraphParts.{GraphParts}
use Rattle.golf_model.specs.Sleepers.{Sleeper}

-- the nodes of these objects
abbrev pub ranks : List (ℕ × Object) → List ℕ → List ℕ
ranks objects os = map (λ o. rank o objects) os

-- whether a goroutine is live at once: it runs, or it is goroutine 0
abbrev pub is_awake : ℕ → GoroutineView → Bool
is_awake g r = is_running r.mode || (g == 0)

-- the references of the goroutines that are live at once
abbrev pub awake_refs : List (ℕ × GoroutineView) → List ℕ
awake_refs [] = []
awake_refs (e ∷ es) = refs_if (is_awake e.0 e.1) (goroutine_refs e.1) ++ awake_refs es

-- the objects that are live at once
abbrev pub live_roots : State → List ℕ
live_roots s = refs s.globals ++ (queue_refs s.queue
    ++ (awake_refs s.goroutines ++ refs_where (has_finaliser s) s.objects))

-- the goroutines that are live only if an object that they wait on is, in rising order
abbrev pub sleeping : State → List (ℕ × GoroutineView)
sleeping s = filter (λ e. not (is_awake e.0 e.1)) s.goroutines

abbrev pub sleeper_of : List (ℕ × Object) → ℕ × GoroutineView → Sleeper
sleeper_of objects e = record {
  goroutine = record { 0 = e.0 };
  waits = ranks objects (waited (waits_of e.1.mode));
  references = ranks objects (goroutine_refs e.1);
}

-- an object's number, and the nodes that it refers to
abbrev pub number_of : ℕ × Object → ObjectId
number_of e = record { 0 = e.0 }

abbrev pub row_of : List (ℕ × Object) → ℕ × Object → List ℕ
row_of objects e = ranks objects (object_refs e.1)

-- the nodes of a state with these roots and sleepers
abbrev pub parts_of : State → List ℕ → List Sleeper → GraphParts
parts_of s roots sleepers = record {
  numbers = map number_of s.objects;
  children = map (row_of s.objects) s.objects;
  finalised = map (λ e. has_finaliser s e.0) s.objects;
  roots = ranks s.objects roots;
  sleepers = sleepers;
}

-- the graph in which the live set is the least closed set
abbrev pub live_parts : State → GraphParts
live_parts s = parts_of s (live_roots s) (map (sleeper_of s.objects) (sleeping s))

-- the graph whose least closed set is the set of objects that are reached without these goroutines
abbrev pub retained_parts : State → List ℕ → GraphParts
retained_parts s gone = parts_of s (sources s gone) []
