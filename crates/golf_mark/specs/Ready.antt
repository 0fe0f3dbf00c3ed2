-- Markers before their run.
use Rattle.std.specs.Prelude.{◌≡◌, ◌<◌, ◌≤◌, ℕ, List, [], length}
use mathlib.Core.Option.{some}
use lib.ListN.{get_elem?}
use Rattle.golf_theory.specs.Membership.{In}
use Rattle.golf_base.specs.Roomy.{Roomy}
use Rattle.golf_marks.specs.declared.marks.Marks.{Marks}
use Rattle.golf_marks.specs.declared.marks.MarkSeat.{MarkSeat}
use Rattle.golf_marks.specs.Seats.{known, seat_count}
use Rattle.golf_grey.specs.declared.hand.GreyHand.{GreyHand}
use Rattle.golf_grey.specs.declared.pool.GreyPool.{GreyPool}
use Rattle.golf_grey.specs.Hands.{took, hand_count}
use Rattle.golf_mark.specs.declared.marker.Marker.{Marker}
use Rattle.golf_mark.specs.MergedMarkers.{marker_parts}
use Rattle.golf_mark.specs.MarkerTurns.{IsMarkerOf, KnowsStill}

-- the marker k has taken nothing yet
pub record IsFreshMarker (marks : Marks) (pool : GreyPool) (k : ℕ) (m : Marker) : Type 0 where
  pub fits : IsMarkerOf marks pool m
  pub none : (f : ℕ → ℕ) → took f m.hand ≡ 0
  pub number : m.hand.number ≡ k

abbrev pub AreFreshMarkers : Marks → GreyPool → List Marker → Type 0
AreFreshMarkers marks pool ms = (k : ℕ) (m : Marker) → get_elem? ms k ≡ some m → IsFreshMarker marks pool k m

-- a marker has claimed a root
pub record Seeds (marks : Marks) (pool : GreyPool) (root : ℕ) (old new : Marker) : Type 0 where
  pub fits : IsMarkerOf marks pool new
  pub keeps : KnowsStill old new
  pub took : (f : ℕ → ℕ) → took f new.hand ≡ took f old.hand
  pub there : In root (known new.scanner.seat)

-- several markers have all that they need
pub record IsReady (marks : Marks) (pool : GreyPool) (ms : List Marker) (hands : Roomy GreyHand)
    (seats : Roomy MarkSeat) : Type 0 where
  pub some_marker : 0 < length ms
  pub few : length ms ≤ 16
  pub count : length ms ≡ hand_count pool
  pub parts : marker_parts ms ≡ seat_count marks
  pub fresh : AreFreshMarkers marks pool ms
  pub no_hand : hands.items ≡ []
  pub hand_room : length ms ≤ hands.spare
  pub no_seat : seats.items ≡ []
  pub seat_room : 0 < seats.spare
