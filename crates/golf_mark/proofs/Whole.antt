-- At the end the claimed places are the least closed set.
-- For: `conclude`, src/conclude.rt; `Least`, golf_model/specs/Graph.antt
-- By: induction over how a place is reached from the roots
use Rattle.std.proofs.Common.{◌≡◌, ℕ, ◌<◌, inl, inr, List, [], ◌∷◌, Bool, ap, subst, arith}
use Rattle.std.specs.Prelude.{◌↔◌}
use Rattle.std.proofs.lemmas.List.Sums.{sum_by-cons}
use Rattle.golf_theory.specs.Membership.{In, Every}
use Rattle.golf_theory.specs.Counts.{times}
use Rattle.golf_theory.proofs.Derivations.{Reached-least}
use Rattle.golf_theory.proofs.Times.{In-times}
use Rattle.golf_model.specs.declared.graph.GraphParts.{GraphParts}
use Rattle.golf_model.specs.Graph.{Justifies, Least, IsInRange}
use Rattle.golf_marks.specs.declared.marks.Marks.{Marks}
use Rattle.golf_marks.specs.declared.marks.MarkSeat.{MarkSeat}
use Rattle.golf_marks.specs.Places.{place_count}
use Rattle.golf_marks.specs.Seats.{graph_in, claimed, known, claim_count}
use Rattle.golf_mark.specs.declared.scanner.Scanner.{Scanner}
use Rattle.golf_mark.specs.FinishingScan.{IsPending}
use Rattle.golf_mark.specs.ScannerState.{IsCovered}
use Rattle.golf_mark.proofs.Ranges.{Least-below}

-- the only seat is that of the scanner: what it claimed is of the least closed set and scanned, and it knows the roots
pub record HasScannedAll (marks : Marks) (todo : List Bool) (s : Scanner) (seats : List MarkSeat) : Type 0 where
  pub one : seats ≡ s.seat ∷ []
  pub sound : (p : ℕ) → 0 < claim_count p seats → Least (graph_in marks) p
  pub covered : IsCovered marks (IsPending todo (place_count (graph_in marks))) s
  pub idle : s.won.items ≡ []
  pub roots : (p : ℕ) → In p (graph_in marks).roots → In p (known s.seat)
  pub known : (p : ℕ) → Every (λ t. In p (known t) → 0 < claim_count p seats) seats

pub claimed_least : (marks : Marks) (todo : List Bool) (s : Scanner) (seats : List MarkSeat)
    → IsInRange (graph_in marks) → HasScannedAll marks todo s seats → (p : ℕ) → 0 < claim_count p seats
    ↔ Least (graph_in marks) p
claimed_least marks todo s seats fit all p = (
  all.sound p,
  Reached-least (λ q. In q g.roots) (Justifies g) (λ q. 0 < claim_count q seats)
      (λ q r. known_claimed q (all.roots q r))
      (λ q x c j.
      let mine : In q (claimed s.seat) = In-times q (claimed s.seat)
      (omega (
        arith,
        c,
        ap (claim_count q) all.one,
        sum_by-cons (λ (t : MarkSeat). times q (claimed t)) s.seat [],
      )) in
      let low : q < place_count g = Least-below g fit q (all.sound q c) in
      elim (all.covered q low mine) [
        | inl done ↦ known_claimed x (done x j)
        | inr k ↦ elim k [
          | inl w ↦ absurd (subst (λ (l : List ℕ). In q l) all.idle w)
          | inr pending ↦ absurd (omega (arith, pending.0, low))
        ]
      ]) p,
)
  where
    g : GraphParts
    g = graph_in marks

    known_claimed : (q : ℕ) → In q (known s.seat) → 0 < claim_count q seats
    known_claimed q h = (subst (λ (l : List MarkSeat). Every (λ t. In q (known t) → 0 < claim_count q seats) l) all.one
        (all.known q)).0 h
