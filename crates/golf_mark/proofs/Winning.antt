-- One claim after another.
-- For: `Wins`, specs/ScannerState.antt; `claim`, src/scanner.rt
-- By: one clause after the other; no induction
use Rattle.std.proofs.Common.{◌≡◌, ℕ, ◌+◌, ◌<◌, ◌≤◌, inl, inr, List, [], ◌∷◌, ◌++◌, length, sym, ap, ◌∙◌, subst}
use Rattle.std.proofs.Common.{refl, append_assoc, append-nil, arith}
use Rattle.std.proofs.lemmas.List.{length-append}
use Rattle.golf_theory.specs.Membership.{In}
use Rattle.golf_theory.proofs.Lists.{In-left, In-right, In-cases}
use Rattle.golf_theory.proofs.Derivations.{Follows-grows}
use Rattle.golf_model.specs.Graph.{Justifies}
use Rattle.golf_marks.specs.declared.marks.Marks.{Marks}
use Rattle.golf_marks.specs.declared.marks.MarkSeat.{MarkSeat}
use Rattle.golf_marks.specs.Places.{place_count}
use Rattle.golf_marks.specs.Seats.{graph_in, claimed, known, IsSeatOf, IsSameSeat}
use Rattle.golf_mark.specs.declared.scanner.Scanner.{Scanner}
use Rattle.golf_mark.specs.ScannerState.{AreClaimable, IsScannerOf, Wins, with_seat}

pub Wins-trans : (marks : Marks) (a b c : Scanner) → Wins marks a b → Wins marks b c → Wins marks a c
Wins-trans marks a b c f g = record {
  fits = g.fits;
  known = λ p h. g.known p (f.known p h);
  parts = g.parts ∙ f.parts;
  won = (
    f.won.0 ++ g.won.0,
    g.won.1 ∙ ap (λ (l : List ℕ). l ++ g.won.0) f.won.1 ∙ append_assoc (claimed a.seat) f.won.0 g.won.0,
    g.won.2 ∙ ap (λ (l : List ℕ). l ++ g.won.0) f.won.2 ∙ append_assoc a.won.items f.won.0 g.won.0,
    λ p h. elim (In-cases p f.won.0 g.won.0 h) [
      | inl i ↦ let r = f.won.3 p i in (r.0, g.known p r.1)
      | inr i ↦
          g.won.3 p i
    ],
  );
}

same_seat : (marks : Marks) (a b : Scanner) → IsScannerOf marks a → IsSameSeat a.seat b.seat → IsSeatOf marks b.seat
same_seat marks a b fits same = record { table = same.table ∙ fits.seat.table; graph = same.graph ∙ fits.seat.graph }

-- a seat that has claimed nothing, and knows what it knew
pub record HasLooked (old new : MarkSeat) : Type 0 where
  pub claimed : claimed new ≡ claimed old
  pub known : (p : ℕ) → In p (known old) → In p (known new)

pub keeps_known : (old new : MarkSeat) (place : ℕ) → known new ≡ known old ++ place ∷ [] → (p : ℕ) → In p (known old)
    → In p (known new)
keeps_known old new place is p h = subst (λ (l : List ℕ). In p l) (sym is) (In-left p (known old) (place ∷ []) h)

-- it looks at a place
pub Wins-looked : (marks : Marks) (a : Scanner) (seat : MarkSeat) → IsScannerOf marks a → IsSameSeat a.seat seat
    → HasLooked a.seat seat → Wins marks a (with_seat a seat)
Wins-looked marks a seat fits same looked = record {
  fits = record {
    seat = record { table = same.table ∙ fits.seat.table; graph = same.graph ∙ fits.seat.graph };
    bounded = omega (arith, fits.bounded, ap length looked.claimed);
    room = omega (arith, fits.room, ap length looked.claimed);
  };
  known = looked.known;
  parts = same.parts;
  won = ([], looked.claimed ∙ sym (append-nil (claimed a.seat)), sym (append-nil a.won.items), λ p h. absurd h);
}

-- nothing is claimed
pub Wins-none : (marks : Marks) (a : Scanner) → IsScannerOf marks a → Wins marks a a
Wins-none marks a fits = Wins-looked marks a a.seat fits (record { table = refl; graph = refl; parts = refl })
    (record { claimed = refl; known = λ p h. h })

-- the seat has claimed these of the places, and the list of what was won has them at its end
pub record HasWon (marks : Marks) (a b : Scanner) (places more : List ℕ) : Type 0 where
  pub same : IsSameSeat a.seat b.seat
  pub part : (p : ℕ) → In p more → In p places
  pub bounded : length (claimed b.seat) ≤ place_count (graph_in marks)
  pub claimed : claimed b.seat ≡ claimed a.seat ++ more
  pub known : known b.seat ≡ known a.seat ++ places
  pub items : b.won.items ≡ a.won.items ++ more
  pub spare : b.won.spare + length more ≡ a.won.spare

-- the claim is won
pub Wins-won : (marks : Marks) (a b : Scanner) (places more : List ℕ)
    → ((p : ℕ) → In p places → p < place_count (graph_in marks)) → IsScannerOf marks a → HasWon marks a b places more
    → Wins marks a b
Wins-won marks a b places more low fits has = record {
  fits = record {
    seat = same_seat marks a b fits has.same;
    bounded = has.bounded;
    room = omega (arith, fits.room, has.spare, ap length has.claimed, length-append (claimed a.seat) more);
  };
  known = λ p h. subst (λ (l : List ℕ). In p l) (sym has.known) (In-left p (known a.seat) places h);
  parts = has.same.parts;
  won = (
    more,
    has.claimed,
    has.items,
    λ p h. (
      low p (has.part p h),
      subst (λ (l : List ℕ). In p l) (sym has.known) (In-right p (known a.seat) places (has.part p h)),
    ),
  );
}

-- what could be claimed before can be claimed still
pub claimable_wins : (marks : Marks) (a b : Scanner) (places : List ℕ) → Wins marks a b → AreClaimable marks a places
    → AreClaimable marks b places
claimable_wins marks a b places wins can p h = (
  (can p h).0,
  Follows-grows (λ q. In q (graph_in marks).roots) (Justifies (graph_in marks)) (known a.seat) (known b.seat) p
      wins.known (can p h).1,
)
