-- A marker and its turns.
use Rattle.std.specs.Prelude.{◌≡◌, ◌+◌, ◌<◌, ◌≤◌, ◌==◌, ◌⊎◌, if◌then◌else◌, ℕ, List, [], ◌∷◌, length}
use Rattle.golf_theory.specs.Membership.{In}
use Rattle.golf_model.specs.declared.graph.GraphParts.{GraphParts}
use Rattle.golf_marks.specs.declared.marks.Marks.{Marks}
use Rattle.golf_marks.specs.Flags.{IsSet}
use Rattle.golf_marks.specs.Places.{place_count}
use Rattle.golf_marks.specs.Seats.{graph_in, known, parts}
use Rattle.golf_grey.specs.declared.pool.GreyPool.{GreyPool}
use Rattle.golf_grey.specs.Hands.{pushed, took, capacity_of, places_of, IsHandOf}
use Rattle.golf_mark.specs.declared.marker.Marker.{Marker}
use Rattle.golf_mark.specs.ScannerState.{IsScannerOf, IsCovered, KnowsWon}
use Rattle.golf_mark.specs.UnderWay.{IsScanned}

-- between turns each place that a marker claimed is scanned, in its own list, or shared
pub record IsMarkerOf (marks : Marks) (pool : GreyPool) (m : Marker) : Type 0 where
  pub scanner : IsScannerOf marks m.scanner
  pub own : KnowsWon marks m.scanner
  pub hand : IsHandOf pool m.hand
  pub covered : IsCovered marks (λ p. In p (pushed m.hand)) m.scanner
  pub budget : length (pushed m.hand) + m.budget ≤ capacity_of pool
  pub deferred : length m.deferred ≡ place_count (graph_in marks)
  pub places : places_of pool ≡ place_count (graph_in marks)

-- the weight by which a place counts only itself
abbrev pub is_one : ℕ → ℕ → ℕ
is_one p q = (if q == p then 1 else 0)

-- each place that the marker took is scanned, or noted as deferred
abbrev pub IsAttended : GraphParts → Marker → Type 0
IsAttended g m = (p : ℕ) → p < place_count g → 0 < took (is_one p) m.hand → IsScanned g (known m.scanner.seat) p
    ⊎ IsSet m.deferred p

-- the marker knows all that it knew, and has the same parts and the same hand
pub record KnowsStill (old new : Marker) : Type 0 where
  pub known : (p : ℕ) → In p (known old.scanner.seat) → In p (known new.scanner.seat)
  pub parts : parts new.scanner.seat ≡ parts old.scanner.seat
  pub number : new.hand.number ≡ old.hand.number

-- a place that was taken is scanned or deferred
pub record Attends (marks : Marks) (pool : GreyPool) (place : ℕ) (old new : Marker) : Type 0 where
  pub fits : IsMarkerOf marks pool new
  pub keeps : KnowsStill old new
  pub took : (f : ℕ → ℕ) → took f new.hand ≡ took f old.hand
  pub deferred : (p : ℕ) → IsSet old.deferred p → IsSet new.deferred p
  pub here : place < place_count (graph_in marks) → IsScanned (graph_in marks) (known new.scanner.seat) place
      ⊎ IsSet new.deferred place

-- a marker takes some turns
pub record TakesTurns (marks : Marks) (pool : GreyPool) (old new : Marker) : Type 0 where
  pub fits : IsMarkerOf marks pool new
  pub keeps : KnowsStill old new
  pub attended : IsAttended (graph_in marks) old → IsAttended (graph_in marks) new

-- each marker of a list takes some turns
abbrev pub EachRuns : Marks → GreyPool → List Marker → List Marker → Type 0
EachRuns marks pool [] [] = Unit {0}
EachRuns marks pool [] (b ∷ bs) = ⊥
EachRuns marks pool (a ∷ rest) [] = ⊥
EachRuns marks pool (a ∷ rest) (b ∷ bs) = TakesTurns marks pool a b × EachRuns marks pool rest bs
