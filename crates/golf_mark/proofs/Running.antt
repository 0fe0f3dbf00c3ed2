-- One run after another, and what a turn does to the places that were taken.
-- For: `step` and `run`, src/marker.rt; `TakesTurns`, specs/MarkerTurns.antt
-- By: cases of what a turn does; for all markers, induction over their list
use Rattle.std.proofs.Common.{◌≡◌, ℕ, ◌+◌, ◌<◌, ◌⊎◌, List, [], ◌∷◌, ◌++◌, Bool, false, cond, ne_eqb, length, get_or}
use Rattle.std.proofs.Common.{refl, sym, ap, ◌∙◌, subst, inl, inr, arith}
use Rattle.std.proofs.lemmas.Bool.{cases_eq}
use Rattle.std.proofs.lemmas.List.{length_push}
use Rattle.golf_theory.specs.Membership.{In}
use Rattle.golf_base.specs.Roomy.{Roomy}
use Rattle.golf_marks.specs.declared.marks.Marks.{Marks}
use Rattle.golf_marks.specs.Flags.{IsSet}
use Rattle.golf_marks.specs.Places.{place_count}
use Rattle.golf_marks.specs.Seats.{graph_in, known, parts}
use Rattle.golf_grey.specs.declared.pool.GreyPool.{GreyPool}
use Rattle.golf_grey.specs.declared.hand.GreyHand.{GreyHand}
use Rattle.golf_grey.specs.Hands.{pushed, took, IsHandOf}
use Rattle.golf_mark.specs.declared.marker.Marker.{Marker}
use Rattle.golf_mark.specs.declared.scanner.Scanner.{Scanner}
use Rattle.golf_mark.specs.MarkerTurns.{IsMarkerOf, KnowsStill, Attends, TakesTurns, EachRuns, is_one}
use Rattle.golf_mark.specs.ScannerState.{IsCovered, Wins, with_won}
use Rattle.golf_mark.specs.UnderWay.{IsScanned, IsTaken}
use Rattle.golf_mark.proofs.Covering.{own_wins, own_less, covered_same, covered_scan, covered_share}

pub KnowsStill-trans : (a b c : Marker) → KnowsStill a b → KnowsStill b c → KnowsStill a c
KnowsStill-trans a b c f g = record {
  known = λ p h. g.known p (f.known p h);
  parts = g.parts ∙ f.parts;
  number = g.number
      ∙ f.number;
}

pub TakesTurns-trans : (marks : Marks) (pool : GreyPool) (a b c : Marker) → TakesTurns marks pool a b
    → TakesTurns marks pool b c
    → TakesTurns marks pool a c
TakesTurns-trans marks pool a b c f g = record {
  fits = g.fits;
  keeps = KnowsStill-trans a b c f.keeps g.keeps;
  attended = λ t. g.attended (f.attended t);
}

-- a turn that took a place
pub TakesTurns-turn : (marks : Marks) (pool : GreyPool) (place : ℕ) (a b c : Marker) → b.scanner ≡ a.scanner
    → b.deferred ≡ a.deferred → b.hand.number ≡ a.hand.number → ((f : ℕ → ℕ) → took f b.hand ≡ took f a.hand + f place)
    → Attends marks pool place b c → TakesTurns marks pool a c
TakesTurns-turn marks pool place a b c scanner deferred number one t = record {
  fits = t.fits;
  keeps = record {
    known = keep;
    parts = t.keeps.parts ∙ ap (λ (s : Scanner). parts s.seat) scanner;
    number = t.keeps.number ∙ number;
  };
  attended = λ old p low pos. elim (cases_eq place p) [
    | inl same ↦ subst (λ (q : ℕ). IsScanned (graph_in marks) (known c.scanner.seat) q ⊎ IsSet c.deferred q) same
        (t.here (subst (λ (q : ℕ). q < place_count (graph_in marks)) (sym same) low))
    | inr apart ↦
        let none = ap (λ (d : Bool). let n : ℕ = cond d 1 0 in n) (ne_eqb place p apart) in
        elim (old p low (omega (arith, t.took (is_one p), one (is_one p), none))) [
          | inl s ↦ inl (λ q j. keep q (s q j))
          | inr m ↦ inr (t.deferred p (ap (λ (v : List Bool). get_or v p false) deferred ∙ m))
        ]
  ];
}
  where
    keep : (p : ℕ) → In p (known a.scanner.seat) → In p (known c.scanner.seat)
    keep p h = t.keeps.known p (subst (λ (l : List ℕ). In p l) (sym (ap (λ (s : Scanner). known s.seat) scanner)) h)

-- nothing is taken or deferred, and what is known stays known
pub TakesTurns-still : (marks : Marks) (pool : GreyPool) (a b : Marker) → IsMarkerOf marks pool b → KnowsStill a b
    → ((f : ℕ → ℕ) → took f b.hand ≡ took f a.hand) → b.deferred ≡ a.deferred → TakesTurns marks pool a b
TakesTurns-still marks pool a b fits keeps same deferred = record {
  fits = fits;
  keeps = keeps;
  attended = λ old p low pos. elim (old p low (omega (arith, same (is_one p)))) [
    | inl s ↦ inl (λ q j. keeps.known q (s q j))
    | inr m ↦ inr (ap (λ (v : List Bool). get_or v p false) deferred ∙ m)
  ];
}

-- its hand has pushed the same
pub IsMarkerOf-hand : (marks : Marks) (pool : GreyPool) (a : Marker) (hand : GreyHand) → IsMarkerOf marks pool a
    → IsHandOf pool hand → pushed hand ≡ pushed a.hand → IsMarkerOf marks pool (record a { hand = hand })
IsMarkerOf-hand marks pool a hand fits its_hand pushes = record {
  scanner = fits.scanner;
  own = fits.own;
  hand = its_hand;
  covered = subst (λ (l : List ℕ). IsCovered marks (λ p. In p l) a.scanner) (sym pushes) fits.covered;
  budget = omega (arith, fits.budget, ap (λ (l : List ℕ). length l) pushes);
  deferred = fits.deferred;
  places = fits.places;
}

-- the hand has pushed these places, and has taken what the old one took
pub record HasPushed (pool : GreyPool) (old hand : GreyHand) (places : List ℕ) : Type 0 where
  pub fits : IsHandOf pool hand
  pub pushed : pushed hand ≡ places
  pub took : (f : ℕ → ℕ) → took f hand ≡ took f old
  pub number : hand.number ≡ old.number

-- its own list is the same, and so is what its hand pushed and took
pub TakesTurns-idle : (marks : Marks) (pool : GreyPool) (a : Marker) (won : Roomy ℕ) (hand : GreyHand)
    → IsMarkerOf marks pool a → won.items ≡ a.scanner.won.items → won.spare ≡ a.scanner.won.spare
    → HasPushed pool a.hand hand (pushed a.hand)
    → TakesTurns marks pool a (record a { scanner = with_won a.scanner won; hand = hand })
TakesTurns-idle marks pool a won hand fits items spare same =
    let s : Scanner = with_won a.scanner won in
    TakesTurns-still marks pool a (record a { scanner = s; hand = hand })
    (record {
      scanner = record {
        seat = fits.scanner.seat;
        bounded = fits.scanner.bounded;
        room = omega (arith, fits.scanner.room, spare);
      };
      own = own_less marks a.scanner s (λ p h. h) (λ p h. subst (λ (l : List ℕ). In p l) items h) fits.own;
      hand = same.fits;
      covered = subst (λ (l : List ℕ). IsCovered marks (λ p. In p l) s) (sym same.pushed)
          (covered_same (λ p. In p (pushed a.hand)) marks a.scanner s refl (λ p h. h) items fits.covered);
      budget = omega (arith, fits.budget, ap (λ (l : List ℕ). length l) same.pushed);
      deferred = fits.deferred;
      places = fits.places;
    })
    (record { known = λ p h. h; parts = refl; number = same.number })
    same.took refl

-- a place of its own list is scanned
pub TakesTurns-own : (marks : Marks) (pool : GreyPool) (place : ℕ) (a : Marker) (won : Roomy ℕ) (s : Scanner)
    → IsMarkerOf marks pool a → IsTaken place a.scanner.won.items won.items
    → Wins marks (with_won a.scanner won) s → IsScanned (graph_in marks) (known s.seat) place
    → TakesTurns marks pool a (record a { scanner = s })
TakesTurns-own marks pool place a won s fits taken wins scanned =
    let rest : Scanner = with_won a.scanner won in
    TakesTurns-still marks pool a (record a { scanner = s })
    (record {
      scanner = wins.fits;
      own = own_wins marks rest s wins (own_less marks a.scanner rest (λ p h. h)
          taken.part fits.own);
      hand = fits.hand;
      covered = covered_scan (λ p. In p (pushed a.hand)) marks place a.scanner s won taken.rest wins scanned
          fits.covered;
      budget = fits.budget;
      deferred = fits.deferred;
      places = fits.places;
    })
    (record { known = wins.known; parts = wins.parts; number = refl })
    (λ f. refl) refl

-- the first place of its own list is shared
pub TakesTurns-shared : {place : ℕ} (marks : Marks) (pool : GreyPool) (budget : ℕ) (a : Marker) (won : Roomy ℕ)
    (hand : GreyHand) → IsMarkerOf marks pool a → a.scanner.won.items ≡ place ∷ won.items
    → won.spare ≡ a.scanner.won.spare
    → HasPushed pool a.hand hand (pushed a.hand ++ place ∷ []) → budget + 1 ≡ a.budget
    → TakesTurns marks pool a (record a { scanner = with_won a.scanner won; hand = hand; budget = budget })
TakesTurns-shared {place} marks pool budget a won hand fits items spare more less =
    let s : Scanner = with_won a.scanner won in
    TakesTurns-still marks pool a (record a { scanner = s; hand = hand; budget = budget })
    (record {
      scanner = record {
        seat = fits.scanner.seat;
        bounded = fits.scanner.bounded;
        room = omega (arith, fits.scanner.room, spare);
      };
      own = own_less marks a.scanner s (λ p h. h) (λ p h. subst (λ (l : List ℕ). In p l) (sym items) (inr h)) fits.own;
      hand = more.fits;
      covered = covered_share marks place a.scanner s (pushed a.hand) (pushed hand) refl items more.pushed fits.covered;
      budget = omega (
        arith,
        fits.budget,
        less,
        ap (λ (l : List ℕ). length l) more.pushed,
        length_push (pushed a.hand) place,
      );
      deferred = fits.deferred;
      places = fits.places;
    })
    (record { known = λ p h. h; parts = refl; number = more.number })
    more.took refl

pub EachRuns-append : (marks : Marks) (pool : GreyPool) (a b c d : List Marker) → EachRuns marks pool a c
    → EachRuns marks pool b d → EachRuns marks pool (a ++ b) (c ++ d)
EachRuns-append marks pool [] b [] d x y = y
EachRuns-append marks pool [] b (m ∷ c) d x y = absurd x
EachRuns-append marks pool (n ∷ a) b [] d x y = absurd x
EachRuns-append marks pool (n ∷ a) b (m ∷ c) d x y = (x.0, EachRuns-append marks pool a b c d x.1 y)
