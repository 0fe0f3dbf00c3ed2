-- Goroutines whose numbers rise.
-- For: `are_rising`, src/collections.rt
-- By: cases of the answer
use Rattle.std.proofs.Common.{◌≡◌, ◌≤◌, ℕ, Bool, true, false, List, Some, nat_cmp, arith, tests}
use Rattle.std.specs.Ordering.{is_le, is_some_and}
use Rattle.std.specs.List.{IsAllAdjacentAnswer}
use Rattle.std.specs.List.Sorted.{IsNonDecreasingBy}
use Rattle.std.proofs.lemmas.List.Sorted.{IsNonDecreasingBy-from_all_adjacent}
use Rattle.golf_base.specs.declared.ids.GoroutineId.{GoroutineId}

tested : (x y : ℕ) → is_le (nat_cmp x y) ≡ true → x ≤ y
tested x y e = grind (arith, tests)

pub rising : (gs : List GoroutineId) (r : Bool) → r ≡ true
    → IsAllAdjacentAnswer (λ (x : GoroutineId) (y : GoroutineId) b. is_some_and is_le (Some (nat_cmp x.0 y.0)) ≡ b) gs r
    → IsNonDecreasingBy (λ (g : GoroutineId). g.0) gs
rising gs true e h = IsNonDecreasingBy-from_all_adjacent (λ (g : GoroutineId). g.0) gs (λ k d l. tested _ _ (h k d l))
rising gs false e h = cc
