-- Maps and sets of numbers as lists in memory hold them: a map by places, a set in rising order.
use Rattle.std.specs.Prelude.{ℕ, suc, cond, not, List, [], ◌∷◌, Option, Some, None, ◌==◌, nat_lt, filter}

-- the entries of a list of places, some of them empty; the first place has the number k
abbrev pub entries : {X : Type 0} → ℕ → List (Option X) → List (ℕ × X)
entries k [] = []
entries k (None ∷ xs) = entries (suc k) xs
entries k (Some x ∷ xs) = (k, x) ∷ entries (suc k) xs

-- the number at its place in a rising list
abbrev pub placed : ℕ → List ℕ → List ℕ
placed g [] = g ∷ []
placed g (x ∷ xs) = cond (nat_lt g x) (g ∷ x ∷ xs) (x ∷ placed g xs)

-- the list without the number
abbrev pub without : ℕ → List ℕ → List ℕ
without g xs = filter (λ x. not (x == g)) xs
