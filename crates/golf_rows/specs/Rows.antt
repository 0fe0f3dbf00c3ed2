-- For each number the members that name it.
use Rattle.std.specs.Prelude.{◌≡◌, ◌<◌, ◌↔◌, ◌⊎◌, ℕ, List, [], length, slice_index_or}
use Rattle.golf_theory.specs.Membership.{In}

-- the row of a number; past the last row it is empty
abbrev pub row_of : List (List ℕ) → ℕ → List ℕ
row_of rows n = slice_index_or rows n []

-- the rows of numbers of this kind gain the member, and no row gains or loses any other member
abbrev pub AddsTo : (ℕ → Type 0) → ℕ → List (List ℕ) → List (List ℕ) → Type 0
AddsTo Kind member old new = (n s : ℕ) → In s (row_of new n) ↔ (In s (row_of old n) ⊎ ((s ≡ member) × Kind n))

-- there are `count` rows, and each number's row has exactly the members below the bound that name it
pub record IsInverseBelow (bound count : ℕ) (named : ℕ → List ℕ) (rows : List (List ℕ)) : Type 0 where
  pub row_count : length rows ≡ count
  pub members : (n s : ℕ) → In s (row_of rows n) ↔ ((s < bound) × In n (named s))
