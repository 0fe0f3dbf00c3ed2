-- The markers after their run, merged.
use Rattle.std.specs.Prelude.{◌≡◌, ◌+◌, ◌<◌, ◌≤◌, ◌⊎◌, ℕ, List, Bool, length, sum_by}
use mathlib.Core.Option.{some}
use lib.ListN.{get_elem?}
use Rattle.golf_theory.specs.Membership.{In}
use Rattle.golf_marks.specs.declared.marks.Marks.{Marks}
use Rattle.golf_marks.specs.declared.marks.MarkSeat.{MarkSeat}
use Rattle.golf_marks.specs.Flags.{IsSet}
use Rattle.golf_marks.specs.Places.{place_count}
use Rattle.golf_marks.specs.Seats.{graph_in, claimed, known, parts, IsSeatOf}
use Rattle.golf_grey.specs.declared.hand.GreyHand.{GreyHand}
use Rattle.golf_grey.specs.declared.pool.GreyPool.{GreyPool}
use Rattle.golf_grey.specs.Hands.{pushed, took}
use Rattle.golf_mark.specs.declared.marker.Marker.{Marker}
use Rattle.golf_mark.specs.MarkerTurns.{IsMarkerOf, IsAttended}

-- the marker k has run
pub record MarkerHasRun (marks : Marks) (pool : GreyPool) (k : ℕ) (m : Marker) : Type 0 where
  pub fits : IsMarkerOf marks pool m
  pub attended : IsAttended (graph_in marks) m
  pub number : m.hand.number ≡ k

abbrev pub AllRun : Marks → GreyPool → List Marker → Type 0
AllRun marks pool ms = (k : ℕ) (m : Marker) → get_elem? ms k ≡ some m → MarkerHasRun marks pool k m

-- each root is known to a marker
abbrev pub IsRooted : List ℕ → List Marker → Type 0
IsRooted roots ms = (p : ℕ) → In p roots → (k : ℕ) × (m : Marker) × (get_elem? ms k ≡ some m)
    × In p (known m.scanner.seat)

-- the parts of the markers' seats together
abbrev pub marker_parts : List Marker → ℕ
marker_parts ms = sum_by (λ m. parts m.scanner.seat) ms

-- one seat, merged from others, and the places that were deferred
pub record Finisher : Type 0 where
  pub seat : MarkSeat
  pub todo : List Bool

pub record IsFinisherOf (marks : Marks) (f : Finisher) : Type 0 where
  pub seat : IsSeatOf marks f.seat
  pub todo : length f.todo ≡ place_count (graph_in marks)

-- the marker has left the place
abbrev pub IsNoted : Marker → ℕ → Type 0
IsNoted m p = IsSet m.deferred p ⊎ In p m.scanner.won.items

-- the markers except for the rest are merged
pub record IsGathered (marks : Marks) (ms rest : List Marker) (f : Finisher) : Type 0 where
  pub fits : IsFinisherOf marks f
  pub begins : (k : ℕ) (m : Marker) → get_elem? rest k ≡ some m → get_elem? ms k ≡ some m
  pub all : (k : ℕ) (m : Marker) → get_elem? ms k ≡ some m → k < length rest → get_elem? rest k ≡ some m
  pub sums : (h : ℕ → ℕ) → sum_by h (claimed f.seat) + sum_by (λ m. sum_by h (claimed m.scanner.seat)) rest ≡ sum_by
      (λ m. sum_by h (claimed m.scanner.seat)) ms
  pub counted : parts f.seat + marker_parts rest ≡ marker_parts ms
  pub told : (k : ℕ) (m : Marker) → get_elem? ms k ≡ some m → length rest ≤ k → (p : ℕ) → In p (known m.scanner.seat)
      → In p (known f.seat)
  pub noted : (k : ℕ) (m : Marker) → get_elem? ms k ≡ some m → length rest ≤ k → (p : ℕ)
      → p < place_count (graph_in marks) → IsNoted m p → IsSet f.todo p

-- the hands of the markers except for the rest, the last one first
pub record IsHandedOver (ms rest : List Marker) (hands : List GreyHand) : Type 0 where
  pub count : length hands + length rest ≡ length ms
  pub from : (k : ℕ) (h : GreyHand) → get_elem? hands k ≡ some h → (j : ℕ) × (m : Marker) × (get_elem? ms j ≡ some m)
      × (m.hand ≡ h) × (j + k + 1 ≡ length ms)
  pub sums_pushed : (f : ℕ → ℕ) → sum_by (λ (h : GreyHand). sum_by f (pushed h)) hands + sum_by
      (λ (m : Marker). sum_by f (pushed m.hand)) rest ≡ sum_by (λ (m : Marker). sum_by f (pushed m.hand)) ms
  pub sums_taken : (f : ℕ → ℕ) → sum_by (λ (h : GreyHand). took f h) hands + sum_by (λ (m : Marker). took f m.hand) rest
      ≡ sum_by (λ (m : Marker). took f m.hand) ms

-- the places that were shared are those that were taken and those that are left
abbrev pub IsEvenWith : List Marker → List ℕ → Type 0
IsEvenWith ms left = (f : ℕ → ℕ) → sum_by (λ m. sum_by f (pushed m.hand)) ms ≡ sum_by (λ m. took f m.hand) ms
    + sum_by f left
