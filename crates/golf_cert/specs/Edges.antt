-- Links that are edges of the graph, whatever places are placed before them.
use Rattle.std.specs.Prelude.{◌≡◌, ◌<◌, ◌⊎◌, ◌↔◌, ℕ, List, Bool, length, slice_get, slice_set, true, Option, Some}
use Rattle.golf_theory.specs.Membership.{In}
use Rattle.golf_rows.specs.Rows.{row_of}
use Rattle.golf_model.specs.declared.graph.GraphParts.{GraphParts}
use Rattle.golf_model.specs.Graph.{Justifies, sleeper_place, children_of, sleeper_waits, sleeper_references}
use Rattle.golf_cert.specs.declared.links.Link.{Link}
use Rattle.golf_cert.specs.declared.links.Link.TheVariants.{Root, Child, Woken, Held}
use Rattle.golf_cert.specs.declared.edges.Step.{Step}
use Rattle.golf_marks.specs.Flags.{IsSet}
use Rattle.golf_cert.specs.Links.{placed_by}
use Rattle.golf_cert.specs.Parents.{parent_in}
use Rattle.golf_cert.specs.Steps.{place_count}

-- the source of a link; for a root link it is 0
abbrev pub source_of : GraphParts → Link → ℕ
source_of g (Root node) = 0
source_of g (Child from to) = from
source_of g (Woken node sleeper) = node
source_of g (Held sleeper node) = sleeper_place g sleeper

-- the link is an edge of the graph
abbrev pub IsEdge : GraphParts → Link → Type 0
IsEdge g (Root node) = ⊥
IsEdge g (Child from to) = In to (children_of g from)
IsEdge g (Woken node sleeper) = In node (sleeper_waits g sleeper)
IsEdge g (Held sleeper node) = In node (sleeper_references g sleeper)

-- the link of this number is an edge of the graph
abbrev pub IsEdgeAt : GraphParts → List Link → ℕ → Type 0
IsEdgeAt g links i = (link : Link) × (slice_get links i ≡ Some link) × IsEdge g link

-- the step leads between places of the graph; its link is an edge exactly when the first place justifies the second
pub record IsStepOf (g : GraphParts) (link : Link) (step : Step) : Type 0 where
  pub from_low : step.from < place_count g
  pub to_low : step.to < place_count g
  pub source : step.from ≡ source_of g link
  pub target : step.to ≡ placed_by g link
  pub edge : IsEdge g link ↔ Justifies g step.from step.to

-- the row of a place has the numbers below the bound of the edges that lead from it
pub record HasLeading (g : GraphParts) (links : List Link) (bound : ℕ) (rows : List (List ℕ)) : Type 0 where
  pub row_count : length rows ≡ place_count g
  pub within : (n i : ℕ) → In i (row_of rows n) → i < bound
  pub all : (i : ℕ) (link : Link) → i < bound → slice_get links i ≡ Some link → IsEdge g link
      → In i (row_of rows (source_of g link))

-- the number of a link is entered in the row of its source
pub record Enters (g : GraphParts) (link : Link) (number : ℕ) (old new : List (List ℕ)) : Type 0 where
  pub kept : (n i : ℕ) → In i (row_of new n) → In i (row_of old n) ⊎ (i ≡ number)
  pub stays : (n i : ℕ) → In i (row_of old n) → In i (row_of new n)
  pub there : IsEdge g link → In number (row_of new (source_of g link))

-- these places get the stamp `from`
pub record Stamps (from : ℕ) (places : List ℕ) (old new : List (Option ℕ)) : Type 0 where
  pub size : length new ≡ length old
  pub stamped : (p : ℕ) → (parent_in new p ≡ Some from) ↔ ((parent_in old p ≡ Some from) ⊎ In p places)
  pub others : (p x : ℕ) → parent_in new p ≡ Some x → (x ≡ from) ⊎ (parent_in old p ≡ Some x)

-- the edges among these links that lead from the place are found
pub record FindsEdges (g : GraphParts) (links : List Link) (from : ℕ) (numbers : List ℕ)
    (old new : List Bool) : Type 0 where
  pub size : length new ≡ length old
  pub kept : (i : ℕ) → IsSet old i → IsSet new i
  pub sound : (i : ℕ) → IsSet new i → IsSet old i ⊎ IsEdgeAt g links i
  pub found : (i : ℕ) (link : Link) → In i numbers → slice_get links i ≡ Some link → IsEdge g link
      → source_of g link ≡ from → IsSet new i

-- the edges that lead from places below the bound are found
pub record IsFinding (g : GraphParts) (links : List Link) (bound : ℕ) (stamps : List (Option ℕ))
    (flags : List Bool) : Type 0 where
  pub stamp_count : length stamps ≡ place_count g
  pub flag_count : length flags ≡ length links
  pub stamps_below : (p x : ℕ) → parent_in stamps p ≡ Some x → x < bound
  pub sound : (i : ℕ) → IsSet flags i → IsEdgeAt g links i
  pub found : (i : ℕ) (link : Link) → slice_get links i ≡ Some link → IsEdge g link → source_of g link < bound
      → IsSet flags i

-- a flag for each link, set exactly when the link is an edge
pub record HasEdges (g : GraphParts) (links : List Link) (flags : List Bool) : Type 0 where
  pub flag_count : length flags ≡ length links
  pub is_edge : (i : ℕ) (link : Link) → slice_get links i ≡ Some link → IsSet flags i ↔ IsEdge g link

-- the link is an edge, and its flag is set; or all flags stay, and the link is no edge from the place
abbrev pub FindsOne : GraphParts → List Link → ℕ → ℕ → List Bool → List Bool → Type 0
FindsOne g links from number old new =
    (link : Link) × (slice_get links number ≡ Some link)
    × (((new ≡ slice_set old number true) × IsEdge g link)
    ⊎ ((new ≡ old) × ((IsEdge g link × (source_of g link ≡ from)) → ⊥)))
