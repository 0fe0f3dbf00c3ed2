use Rattle.std.proofs.Common.{◌≡◌, ℕ, ◌<◌, ◌⊎◌, ◌∷◌, get_or, length}
use Rattle.golf_theory.specs.Membership.{In}
use Rattle.golf_marks.specs.Batches.{batched}
use Rattle.golf_marks.specs.Seats.{known}
use Rattle.golf_mark.specs.ScannerState.{Wins}
use Rattle.golf_mark.proofs.scanner.claim_all.Given as goal

abbrev pub invariant-loop-place : goal.invariant-loop-place
invariant-loop-place l = record {
  wins : Wins l.marks l.initial.scanner l.scanner;
  some : 0 < length (batched l.batch);
  from : (p : ℕ) → In p (batched l.batch) → In p l.places;
  first : (q : ℕ) → l.places ≡ q ∷ l.rest → In q (batched l.batch) ⊎ In q (known l.scanner.seat);
  there : (k : ℕ) → k < l.place-index
      → In (get_or l.rest k 0) (batched l.batch) ⊎ In (get_or l.rest k 0) (known l.scanner.seat);
}
