-- A graph of objects and blocked goroutines, and its least closed set.
use Rattle.std.specs.Prelude.{◌^◌, ◌++◌, ◌&&◌, ◌||◌, ◌-◌, Bool, nat_le, ◌≡◌, ℕ, ◌+◌, ◌<◌, ◌≤◌, List, [], ◌∷◌, length}
use Rattle.std.specs.Prelude.{Option}
use Rattle.std.specs.Prelude.{option_map, unwrap_or, slice_get}
use Rattle.golf_theory.specs.Membership.{In, Every, is_in, any_of}
use Rattle.golf_theory.specs.Reached.{Reached}
use Rattle.golf_theory.specs.Least.{least}
use Rattle.golf_base.specs.declared.ids.ObjectId.{ObjectId}
use Rattle.golf_base.specs.declared.ids.GoroutineId.{GoroutineId}
use Rattle.golf_model.specs.declared.graph.GraphParts.{GraphParts}
use Rattle.golf_model.specs.Sleepers.{Sleeper}

-- the number of nodes and of sleepers; places below the first are nodes, the others sleepers
abbrev pub node_count : GraphParts → ℕ
node_count g = length g.children

abbrev pub sleeper_count : GraphParts → ℕ
sleeper_count g = length g.sleepers

-- the place of a sleeper
abbrev pub sleeper_place : GraphParts → ℕ → ℕ
sleeper_place g s = node_count g + s

-- the children of a node, and the goroutine, waits and references of a sleeper
abbrev pub children_of : GraphParts → ℕ → List ℕ
children_of g node = unwrap_or (slice_get g.children node) []

abbrev pub goroutine_at : GraphParts → ℕ → Option GoroutineId
goroutine_at g s = option_map (λ x. x.goroutine) (slice_get g.sleepers s)

abbrev pub sleeper_waits : GraphParts → ℕ → List ℕ
sleeper_waits g s = unwrap_or (option_map (λ x. x.waits) (slice_get g.sleepers s)) []

abbrev pub sleeper_references : GraphParts → ℕ → List ℕ
sleeper_references g s = unwrap_or (option_map (λ x. x.references) (slice_get g.sleepers s)) []

-- one place justifies another: a node its children and the sleepers that wait on it, a sleeper its references
pub data Justifies (g : GraphParts) (from to : ℕ) : Type 0 where
  child : In to (children_of g from) → Justifies g from to
  wakes : (s : ℕ) → to ≡ sleeper_place g s → In from (sleeper_waits g s) → Justifies g from to
  refers : (s : ℕ) → from ≡ sleeper_place g s → In to (sleeper_references g s) → Justifies g from to

-- the least closed set: the place ends a list in which each entry is a root, or an earlier entry justifies it
abbrev pub Least : GraphParts → ℕ → Type 0
Least g = Reached (λ p. In p g.roots) (Justifies g)

-- the relation as a test
abbrev pub justifies : GraphParts → ℕ → ℕ → Bool
justifies g from to =
    is_in to (children_of g from) || ((nat_le (node_count g) to && is_in from (sleeper_waits g (to - node_count g)))
    || (nat_le (node_count g) from && is_in to (sleeper_references g (from - node_count g))))

-- the place is a root, or a place in the list justifies it
abbrev pub is_justified_next : GraphParts → List ℕ → ℕ → Bool
is_justified_next g got p = is_in p g.roots || any_of (λ q. justifies g q p) got

abbrev pub places_from : {X : Type 0} → ℕ → List X → List ℕ
places_from k [] = []
places_from k (x ∷ xs) = k ∷ places_from (k + 1) xs

abbrev pub all_children : List (List ℕ) → List ℕ
all_children [] = []
all_children (row ∷ rows) = row ++ all_children rows

abbrev pub all_references : List Sleeper → List ℕ
all_references [] = []
all_references (x ∷ xs) = x.references ++ all_references xs

-- all places that can be in the least closed set
abbrev pub named_places : GraphParts → List ℕ
named_places g = g.roots ++ (all_children g.children
    ++ (places_from (node_count g) g.sleepers ++ all_references g.sleepers))

-- the least closed set, computed
unfoldable pub least_places : GraphParts → List ℕ
least_places g = least (is_justified_next g) (named_places g)

-- the numbers rise strictly, and the first is at least k
abbrev pub NumbersRise : ℕ → List ObjectId → Type 0
NumbersRise k [] = Unit {0}
NumbersRise k (o ∷ os) = (k ≤ o.0) × NumbersRise (o.0 + 1) os

-- each of these places is a node
abbrev pub AreNodes : GraphParts → List ℕ → Type 0
AreNodes g ps = Every (λ p. p < node_count g) ps

-- every named place is a node, and the numbers of the objects rise
pub record IsInRange (g : GraphParts) : Type 0 where
  pub numbered : length g.numbers ≡ node_count g
  pub flagged : length g.finalised ≡ node_count g
  pub numbers : NumbersRise 0 g.numbers
  pub few : node_count g + sleeper_count g < 2 ^ 32
  pub children : Every (AreNodes g) g.children
  pub roots : AreNodes g g.roots
  pub waits : Every (λ x. AreNodes g x.waits) g.sleepers
  pub references : Every (λ x. AreNodes g x.references) g.sleepers
