-- The rule of the mark words: its invariant between any two steps of any threads, and what each step tells its seat.
use Rattle.std.specs.Prelude.{◌≡◌, ℕ, ◌+◌, ◌-◌, ◌<◌, ◌≤◌, ◌==◌, List, [], ◌∷◌, ◌++◌, length, sum_by, if◌then◌else◌}
use mathlib.Core.Option.{some}
use lib.ListN.{get_elem?}
use Rattle.atomic_table.specs.Table.{State, Me, Step}
use Rattle.golf_theory.specs.Membership.{In}
use Rattle.golf_theory.specs.Counts.{times}
use Rattle.golf_model.specs.declared.graph.GraphParts.{GraphParts}
use Rattle.golf_model.specs.Graph.{Least}
use Rattle.golf_marks.specs.declared.rule.View.{View}
use Rattle.golf_marks.specs.declared.rule.Plan.{Plan}
use Rattle.golf_marks.specs.Bits.{word_of, mask_of, bit_in, bit_at, marked_in, unset_in}
use Rattle.golf_marks.specs.Places.{place_count, word_count}

abbrev pub view_of : GraphParts → ℕ → List ℕ → List ℕ → View
view_of g parts claimed known = record { graph = g; parts = parts; claimed = claimed; known = known }

abbrev pub graph_of : Plan → GraphParts
graph_of plan = plan.graph.value

-- A view without a part has claimed nothing and knows nothing. Any other view has the graph of the words. It knows the
-- places that it claimed, and the places that it knows are marked.
pub record MarkViewFits (g : GraphParts) (words : List ℕ) (v : View) : Type 0 where
  pub idle : v.parts ≡ 0 → v.claimed ≡ []
  pub ignorant : v.parts ≡ 0 → v.known ≡ []
  pub graph : 0 < v.parts → v.graph ≡ g
  pub own : (p : ℕ) → In p v.claimed → In p v.known
  pub known : (p : ℕ) → In p v.known → bit_at words p ≡ 1

-- Each place is claimed as often as its bit says. The parts add up to the seats. Each view fits. Each marked place is a
-- place of the graph, and is in its least closed set.
pub record Holds (plan : Plan) (s : State (Unit {0}) View) : Type 0 where
  pub size : length s.words ≡ word_count (graph_of plan)
  pub claims : (p : ℕ) → sum_by (λ v. times p v.claimed) s.views ≡ bit_at s.words p
  pub parts : sum_by (λ v. v.parts) s.views ≡ plan.seats
  pub views : (seat : ℕ) (v : View) → get_elem? s.views seat ≡ some v → MarkViewFits (graph_of plan) s.words v
  pub low : (p : ℕ) → bit_at s.words p ≡ 1 → p < place_count (graph_of plan)
  pub sound : (p : ℕ) → bit_at s.words p ≡ 1 → Least (graph_of plan) p

-- the first view has all parts
abbrev pub first_view : Plan → View
first_view plan = view_of (graph_of plan) plan.seats [] []

-- what a claim of the places in the mask tells that found the word n: it claims those whose bits were not set
pub record Claims (word mask : ℕ) (v : View) (n : ℕ) (w : View) : Type 0 where
  pub view : w ≡ view_of v.graph v.parts (v.claimed ++ marked_in word (unset_in mask n))
      (v.known ++ marked_in word mask)
  pub once : (p : ℕ) → In p (marked_in word (unset_in mask n)) → times p v.claimed ≡ 0
  pub bounded : length w.claimed ≤ place_count v.graph

-- what a look tells that found this bit
pub record Looks (place : ℕ) (v : View) (bit : ℕ) (w : View) : Type 0 where
  pub small : bit ≤ 1
  pub view : w ≡ view_of v.graph v.parts v.claimed (if bit == 1 then v.known ++ place ∷ [] else v.known)
  pub known : In place v.known → bit ≡ 1
  pub unclaimed : bit ≡ 0 → times place v.claimed ≡ 0
  pub bounded : length v.claimed ≤ place_count v.graph

-- a claim names its places by the word and the first operand
abbrev pub ClaimTells : Step (Unit {0}) → Me (Unit {0}) View → ℕ → Me (Unit {0}) View → Type 0
ClaimTells step me n now = Claims step.word step.first me.0 n now.0 × (now.1 ≡ me.1)

-- a look names its place by the word and the first operand
abbrev pub LookTells : Step (Unit {0}) → Me (Unit {0}) View → ℕ → Me (Unit {0}) View → Type 0
LookTells step me n now = ((p : ℕ) → word_of p ≡ step.word → mask_of p ≡ step.first → Looks p me.0 (bit_in p n) now.0)
    × (now.1 ≡ me.1)

-- a glance tells all marked places of its word
pub record Glances (word : ℕ) (v : View) (n : ℕ) (w : View) : Type 0 where
  pub view : w ≡ view_of v.graph v.parts v.claimed (v.known ++ marked_in word n)
  pub known : (p : ℕ) → word_of p ≡ word → In p v.known → bit_in p n ≡ 1
  pub unclaimed : (p : ℕ) → word_of p ≡ word → bit_in p n ≡ 0 → times p v.claimed ≡ 0

abbrev pub GlanceTells : Step (Unit {0}) → Me (Unit {0}) View → ℕ → Me (Unit {0}) View → Type 0
GlanceTells step me n now = Glances step.word me.0 n now.0 × (now.1 ≡ me.1)

-- a split gives one part to the new view, which knows all that the old one knows
abbrev pub left_view : View → View
left_view v = view_of v.graph (v.parts - 1) v.claimed v.known

abbrev pub right_view : View → View
right_view v = view_of v.graph 1 [] v.known

-- a join takes all of the other view, which is then empty
abbrev pub both_views : View → View → View
both_views v w = view_of v.graph (v.parts + w.parts) (v.claimed ++ w.claimed) (v.known ++ w.known)

abbrev pub no_graph : GraphParts
no_graph = record { numbers = []; children = []; finalised = []; roots = []; sleepers = [] }

abbrev pub spent_view : View
spent_view = view_of no_graph 0 [] []
