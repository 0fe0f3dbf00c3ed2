-- Small facts of blocks.
-- For: src/run_blocks.rt, src/sums.rt
-- By: induction over a list
use Rattle.std.proofs.Common.{◌≡◌, ℕ, zero, suc, ◌≤◌, List, [], ◌∷◌, length, get_or, refl, arith}
use Rattle.std.proofs.lemmas.List.{length-map}
use Rattle.golf_base.specs.declared.ids.GoroutineId.{GoroutineId}
use Rattle.golf_state_goroutines.specs.RunBlocks.{numbers}

pub numbers-length : (xs : List GoroutineId) → length (numbers xs) ≡ length xs
numbers-length xs = length-map xs (λ (g : GoroutineId). g.0)

pub get_or-past : (ns : List ℕ) (k : ℕ) → length ns ≤ k → get_or ns k 0 ≡ 0
get_or-past [] k l = refl
get_or-past (n ∷ ns) zero l = absurd (omega (arith, l))
get_or-past (n ∷ ns) (suc k) l = get_or-past ns k (omega (arith, l))
