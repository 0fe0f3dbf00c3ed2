use Rattle.std.proofs.Common.{◌≡◌, ℕ, ◌<◌, length, get_or}
use Rattle.golf_state_goroutines.proofs.sums.clear.Given as goal

-- those so far are 0
abbrev pub invariant-loop-at : goal.invariant-loop-at
invariant-loop-at l = record {
  zero : (k : ℕ) → k < l.at → get_or l.sums.items k 0 ≡ 0;
  len : length l.sums.items ≡ length l.fn.sums.items;
}
