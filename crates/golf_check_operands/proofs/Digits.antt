-- The numbers that digits stand for.
-- For: `small_value`, src/literals.rt; `value_from`, golf_check_types/specs/Expressions.antt
-- By: induction over the list of digits
use Rattle.std.proofs.Common.{ℕ, suc, ◌+◌, ◌-◌, ◌*◌, ◌≤◌, ◌<◌, List, [], ◌∷◌, drop, length, get_or, arith, drop-cons}
use Rattle.golf_check_types.specs.Expressions.{value_from}

-- more digits make no smaller number
pub value_from-grows : (n : ℕ) (ds : List ℕ) → n ≤ value_from n ds
value_from-grows n [] = omega arith
value_from-grows n (d ∷ ds) = omega (arith, value_from-grows (10 * n + (d - 48)) ds)

-- at a digit, the number is at least the one up to it
pub value_from-at : (n : ℕ) (ds : List ℕ) (i : ℕ) → i < length ds
    → 10 * n + (get_or ds i 0 - 48) ≤ value_from n (drop i ds)
value_from-at n ds i lt = rw (drop-cons ds i 0) (value_from-grows (10 * n + (get_or ds i 0 - 48)) (drop (suc i) ds))
