use Rattle.std.proofs.Common.{◌≡◌, ℕ}
use Rattle.golf_grey.specs.Hands.{pushed, took, IsHandOf}
use Rattle.golf_mark.proofs.marker.look_again.Given as goal

abbrev pub invariant-loop-look : goal.invariant-loop-look
invariant-loop-look l = record {
  hand : IsHandOf l.shared.pool.now l.hand;
  pushed : pushed l.hand ≡ pushed l.initial.hand;
  took : (f : ℕ → ℕ) → took f l.hand ≡ took f l.initial.hand;
  number : l.hand.number ≡ l.initial.hand.number;
}
