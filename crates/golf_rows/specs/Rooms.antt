-- Rows with a fixed room each, and how often a number is a member.
use Rattle.std.specs.Prelude.{ℕ, zero, suc, ◌+◌, ◌-◌, ◌≤◌, cond, eqb, List, [], ◌∷◌, ◌++◌, take, drop}
use Rattle.golf_base.specs.Roomy.{Roomy}

-- how often a number occurs in a list
abbrev pub occurrences : ℕ → List ℕ → ℕ
occurrences n [] = 0
occurrences n (m ∷ ms) = cond (eqb m n) 1 0 + occurrences n ms

-- how often a number occurs in all rows
abbrev pub in_rows : ℕ → List (List ℕ) → ℕ
in_rows n [] = 0
in_rows n (row ∷ rows) = occurrences n row + in_rows n rows

-- an empty row with room for n members
abbrev pub room_for : ℕ → Roomy ℕ
room_for n = record { items = []; spare = n }

-- how many members the row of a number can still take; past the last row it is 0
abbrev pub spare_at : List (Roomy ℕ) → ℕ → ℕ
spare_at [] n = 0
spare_at (row ∷ rows) zero = row.spare
spare_at (row ∷ rows) (suc n) = spare_at rows n

-- the row of a number has taken a member
abbrev pub given : List (Roomy ℕ) → ℕ → ℕ → List (Roomy ℕ)
given [] n member = []
given (row ∷ rows) zero member = record { items = row.items ++ member ∷ []; spare = row.spare - 1 } ∷ rows
given (row ∷ rows) (suc n) member = row ∷ given rows n member

-- the rows that lie one after another in one list, given by where the room of each ends and where its next member goes
abbrev pub roomy_from : ℕ → List ℕ → List ℕ → List ℕ → List (Roomy ℕ)
roomy_from from [] nexts members = []
roomy_from from (end ∷ ends) [] members = []
roomy_from from (end ∷ ends) (next ∷ nexts) members = record { items = take (next - from) members; spare = end - next }
    ∷ roomy_from end ends nexts (drop (end - from) members)

-- each next member goes into the room of its own row, and no room ends past the bound
abbrev pub AreRooms : ℕ → List ℕ → List ℕ → ℕ → Type 0
AreRooms from [] [] bound = from ≤ bound
AreRooms from [] (next ∷ nexts) bound = ⊥
AreRooms from (end ∷ ends) [] bound = ⊥
AreRooms from (end ∷ ends) (next ∷ nexts) bound = (from ≤ next) × (next ≤ end) × AreRooms end ends nexts bound
