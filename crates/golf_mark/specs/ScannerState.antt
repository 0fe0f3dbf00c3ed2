-- The scanner of a marker: its seat, and the places that it has won.
use Rattle.std.specs.Prelude.{◌≡◌, ◌+◌, ◌<◌, ◌≤◌, ◌++◌, ◌⊎◌, ℕ, List, length}
use Rattle.golf_theory.specs.Membership.{In}
use Rattle.golf_base.specs.Roomy.{Roomy}
use Rattle.golf_marks.specs.declared.marks.Marks.{Marks}
use Rattle.golf_marks.specs.declared.marks.MarkSeat.{MarkSeat}
use Rattle.golf_marks.specs.Places.{place_count, IsJustified}
use Rattle.golf_marks.specs.Seats.{graph_in, claimed, known, parts, IsSeatOf}
use Rattle.golf_mark.specs.declared.scanner.Scanner.{Scanner}
use Rattle.golf_mark.specs.UnderWay.{IsScanned}

-- the same scanner with another list, or with another seat
abbrev pub with_won : Scanner → Roomy ℕ → Scanner
with_won s won = record { seat = s.seat; won = won }

abbrev pub with_seat : Scanner → MarkSeat → Scanner
with_seat s seat = record { seat = seat; won = s.won }

-- the scanner's seat belongs to these words, and its list has room for all places that it may win
pub record IsScannerOf (marks : Marks) (s : Scanner) : Type 0 where
  pub seat : IsSeatOf marks s.seat
  pub bounded : length (claimed s.seat) ≤ place_count (graph_in marks)
  pub room : place_count (graph_in marks) ≤ length (claimed s.seat) + s.won.spare

-- each place that the scanner claimed is scanned, in its own list, or elsewhere
abbrev pub IsCovered : Marks → (ℕ → Type 0) → Scanner → Type 0
IsCovered marks Elsewhere s =
    (p : ℕ) → p < place_count (graph_in marks) → In p (claimed s.seat) → IsScanned (graph_in marks) (known s.seat) p
    ⊎ (In p s.won.items ⊎ Elsewhere p)

-- the scanner knows all places of its own list
abbrev pub KnowsWon : Marks → Scanner → Type 0
KnowsWon marks s = (p : ℕ) → In p s.won.items → (p < place_count (graph_in marks)) × In p (known s.seat)

-- the scanner claims: the places that it wins join its own list, and it knows all that it knew
pub record Wins (marks : Marks) (old new : Scanner) : Type 0 where
  pub fits : IsScannerOf marks new
  pub won : (more : List ℕ) × (claimed new.seat ≡ claimed old.seat ++ more) × (new.won.items ≡ old.won.items ++ more)
      × ((p : ℕ) → In p more → (p < place_count (graph_in marks)) × In p (known new.seat))
  pub known : (p : ℕ) → In p (known old.seat) → In p (known new.seat)
  pub parts : parts new.seat ≡ parts old.seat

-- the places are places of the graph, and a root or a place that the scanner knows justifies each of them
abbrev pub AreClaimable : Marks → Scanner → List ℕ → Type 0
AreClaimable marks s places =
    (p : ℕ) → In p places → (p < place_count (graph_in marks)) × IsJustified (graph_in marks) (known s.seat) p
