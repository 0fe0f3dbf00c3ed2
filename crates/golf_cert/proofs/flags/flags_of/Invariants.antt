use Rattle.std.proofs.Common.{◌≡◌, ℕ, length, take}
use Rattle.std.specs.Prelude.{◌↔◌}
use Rattle.golf_theory.specs.Membership.{In}
use Rattle.golf_marks.specs.Flags.{IsSet}
use Rattle.golf_cert.proofs.flags.flags_of.Given as goal

abbrev pub invariant-loop-place : goal.invariant-loop-place
invariant-loop-place l = record {
  size : length l.flags ≡ l.count;
  members : (p : ℕ) → IsSet l.flags p ↔ In p (take l.place-index l.places);
}
