-- The number of occurrences of a number in a list, and sums of weights.
use Rattle.std.specs.Prelude.{ℕ, List, ◌==◌, sum_by, count_by}

-- how often x occurs in the list
abbrev pub times : ℕ → List ℕ → ℕ
times x xs = count_by (λ y. y == x) xs

-- how often x occurs in all rows
abbrev pub rows_times : ℕ → List (List ℕ) → ℕ
rows_times x rows = sum_by (λ row. times x row) rows
