-- Rows that lie one after another in one list, given by the place where each of them ends.
use Rattle.std.specs.Prelude.{ℕ, ◌-◌, ◌≤◌, List, [], ◌∷◌, take, drop}

-- the rows from a place on: each begins where the row before it ends
abbrev pub rows_from : ℕ → List ℕ → List ℕ → List (List ℕ)
rows_from from [] members = []
rows_from from (end ∷ ends) members = take (end - from) members ∷ rows_from end ends (drop (end - from) members)

-- no end lies before the end of the row before it, and none past the bound
abbrev pub AreEnds : ℕ → List ℕ → ℕ → Type 0
AreEnds from [] bound = from ≤ bound
AreEnds from (end ∷ ends) bound = (from ≤ end) × AreEnds end ends bound
