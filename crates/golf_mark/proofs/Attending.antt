-- A place that was taken is scanned, or deferred.
-- For: `scan_or_defer`, src/marker.rt; `Attends`, specs/MarkerTurns.antt
-- By: one part of what is to be shown after the other; no induction
use Rattle.std.proofs.Common.{◌≡◌, ℕ, inl, inr, List, Bool, length, refl, ◌∙◌}
use Rattle.golf_theory.specs.Membership.{In}
use Rattle.golf_marks.specs.declared.marks.Marks.{Marks}
use Rattle.golf_marks.specs.declared.marks.MarkSeat.{MarkSeat}
use Rattle.golf_marks.specs.Flags.{IsSet}
use Rattle.golf_marks.specs.Seats.{graph_in, known, IsSameSeat}
use Rattle.golf_grey.specs.declared.pool.GreyPool.{GreyPool}
use Rattle.golf_grey.specs.Hands.{pushed}
use Rattle.golf_mark.specs.declared.marker.Marker.{Marker}
use Rattle.golf_mark.specs.declared.scanner.Scanner.{Scanner}
use Rattle.golf_mark.specs.ScannerState.{Wins, with_seat}
use Rattle.golf_mark.specs.MarkerTurns.{IsMarkerOf, Attends}
use Rattle.golf_mark.specs.UnderWay.{IsScanned}
use Rattle.golf_mark.proofs.Winning.{HasLooked, Wins-looked}
use Rattle.golf_mark.proofs.Covering.{own_wins, own_less, covered_wins, covered_same}

-- a marker claims
pub IsMarkerOf-wins : (marks : Marks) (pool : GreyPool) (a : Marker) (s : Scanner) → IsMarkerOf marks pool a
    → Wins marks a.scanner s → IsMarkerOf marks pool (record a { scanner = s })
IsMarkerOf-wins marks pool a s fits w = record {
  scanner = w.fits;
  own = own_wins marks a.scanner s w fits.own;
  hand = fits.hand;
  covered = covered_wins (λ p. In p (pushed a.hand)) marks a.scanner s w fits.covered;
  budget = fits.budget;
  deferred = fits.deferred;
  places = fits.places;
}

pub Attends-scanned : (marks : Marks) (pool : GreyPool) (place : ℕ) (a : Marker) (seat : MarkSeat) (s : Scanner)
    → IsMarkerOf marks pool a → IsSameSeat a.scanner.seat seat → HasLooked a.scanner.seat seat
    → Wins marks (with_seat a.scanner seat) s → IsScanned (graph_in marks) (known s.seat) place
    → Attends marks pool place a (record a { scanner = s })
Attends-scanned marks pool place a seat s fits same look wins scanned =
    let looked : Scanner = with_seat a.scanner seat in
    record {
      fits = record {
        scanner = wins.fits;
        own = own_wins marks looked s wins (own_less marks a.scanner looked look.known (λ p h. h) fits.own);
        hand = fits.hand;
        covered = covered_wins (λ p. In p (pushed a.hand)) marks looked s wins
            (covered_same (λ p. In p (pushed a.hand)) marks a.scanner looked look.claimed look.known refl fits.covered);
        budget = fits.budget;
        deferred = fits.deferred;
        places = fits.places;
      };
      keeps = record { known = λ p h. wins.known p (look.known p h); parts = wins.parts ∙ same.parts; number = refl };
      took = λ f. refl;
      deferred = λ p m. m;
      here = λ _. inl scanned;
    }

-- the notes have what the old ones had, and the place
pub record AlsoNotes (place : ℕ) (old notes : List Bool) : Type 0 where
  pub length : length notes ≡ length old
  pub kept : (p : ℕ) → IsSet old p → IsSet notes p
  pub noted : IsSet notes place

-- a place that is not known as marked is deferred
pub Attends-deferred : (marks : Marks) (pool : GreyPool) (place : ℕ) (a : Marker) (seat : MarkSeat) (notes : List Bool)
    → IsMarkerOf marks pool a → IsSameSeat a.scanner.seat seat → HasLooked a.scanner.seat seat
    → AlsoNotes place a.deferred notes
    → Attends marks pool place a (record a { scanner = with_seat a.scanner seat; deferred = notes })
Attends-deferred marks pool place a seat notes fits same look more =
    let looked = Wins-looked marks a.scanner seat fits.scanner same look in
    let with_look = IsMarkerOf-wins marks pool a (with_seat a.scanner seat) fits looked in
    record {
      fits = record {
        scanner = with_look.scanner;
        own = with_look.own;
        hand = with_look.hand;
        covered = with_look.covered;
        budget = with_look.budget;
        deferred = more.length ∙ fits.deferred;
        places = with_look.places;
      };
      keeps = record { known = looked.known; parts = looked.parts; number = refl };
      took = λ f. refl;
      deferred = more.kept;
      here = λ _. inr more.noted;
    }
