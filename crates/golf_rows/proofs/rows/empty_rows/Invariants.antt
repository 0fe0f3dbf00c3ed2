use Rattle.std.proofs.Common.{◌≡◌, ℕ, length}
use Rattle.golf_theory.specs.Membership.{In}
use Rattle.golf_rows.specs.Rows.{row_of}
use Rattle.golf_rows.proofs.rows.empty_rows.Given as goal

abbrev pub invariant-loop : goal.invariant-loop
invariant-loop l = (length l.rows ≡ l.counter) × ((n s : ℕ) → In s (row_of l.rows n) → ⊥)
