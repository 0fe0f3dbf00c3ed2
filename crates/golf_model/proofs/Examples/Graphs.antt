-- Least closed sets of small graphs. A node's place is its number here; the sleepers come after the nodes.
use Rattle.std.specs.Prelude.{◌≡◌, ℕ, false, List, [], ◌∷◌, ◌++◌, filter, map, refl}
use Rattle.golf_theory.specs.Membership.{is_in}
use Rattle.golf_model.specs.declared.graph.GraphParts.{GraphParts}
use Rattle.golf_model.specs.Sleepers.{Sleeper}
use Rattle.golf_model.specs.Graph.{node_count, places_from, least_places}

-- a sleeper that waits on the first and refers to the second
abbrev sleeper : List ℕ → List ℕ → Sleeper
sleeper waits references = record { goroutine = record { 0 = 2 }; waits = waits; references = references }

abbrev graph : List (List ℕ) → List ℕ → List Sleeper → GraphParts
graph children roots sleepers =
    record {
      numbers = map (λ n. record { 0 = n }) (places_from 1 children);
      children = children;
      finalised = map (λ row. false) children;
      roots = roots;
      sleepers = sleepers;
    }

-- the marked places, in rising order
abbrev marked : GraphParts → List ℕ
marked g = filter (λ p. is_in p (least_places g)) (places_from 0 g.children ++ places_from (node_count g) g.sleepers)

-- children of marked nodes are marked, and no others
pub children_are_marked : marked (graph ((1 ∷ []) ∷ (2 ∷ []) ∷ [] ∷ (0 ∷ []) ∷ []) (0 ∷ []) []) ≡ 0 ∷ 1 ∷ 2 ∷ []
unfolding least_places
children_are_marked = refl

-- a marked channel awakens its sleeper, whose references awaken the next: two rounds of root growth
pub roots_grow_twice : marked (graph ([] ∷ [] ∷ [] ∷ []) (0 ∷ [])
    (sleeper (1 ∷ []) (1 ∷ 2 ∷ []) ∷ sleeper (0 ∷ []) (0 ∷ 1 ∷ []) ∷ [])) ≡ 0 ∷ 1 ∷ 2 ∷ 3 ∷ 4 ∷ []
unfolding least_places
roots_grow_twice = refl

-- a sleeper that waits on an unmarked node alone stays unmarked, and so does one that waits on nothing
pub asleep_for_ever : marked (graph ([] ∷ [] ∷ []) (0 ∷ []) (sleeper (1 ∷ []) (0 ∷ 1 ∷ []) ∷ sleeper [] (0 ∷ []) ∷ []))
    ≡ 0 ∷ []
unfolding least_places
asleep_for_ever = refl

-- one marked node of those that it waits on is enough
pub one_of_many : marked (graph ([] ∷ [] ∷ []) (1 ∷ []) (sleeper (0 ∷ 1 ∷ []) (0 ∷ 1 ∷ []) ∷ [])) ≡ 0 ∷ 1 ∷ 2 ∷ []
unfolding least_places
one_of_many = refl

-- sleepers that wait for each other stay unmarked
pub cycle_stays_asleep : marked (graph ([] ∷ [] ∷ []) []
    (sleeper (0 ∷ []) (0 ∷ 1 ∷ []) ∷ sleeper (1 ∷ []) (0 ∷ 1 ∷ []) ∷ [])) ≡ []
unfolding least_places
cycle_stays_asleep = refl
