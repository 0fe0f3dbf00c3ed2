-- Lists of numbers that rise.
use Rattle.std.specs.Prelude.{ℕ, suc, ◌≤◌, cond, List, [], ◌∷◌, nat_lt}

-- the numbers rise strictly, and the first is at least k
abbrev pub RisesFrom : ℕ → List ℕ → Type 0
RisesFrom k [] = Unit {0}
RisesFrom k (x ∷ xs) = (k ≤ x) × RisesFrom (suc x) xs

-- how many numbers come before the first one that is not below the bound
abbrev pub leading : ℕ → List ℕ → ℕ
leading bound [] = 0
leading bound (x ∷ xs) = cond (nat_lt x bound) (suc (leading bound xs)) 0
