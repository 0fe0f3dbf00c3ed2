-- Membership in lists, as a fact and as a test.
use Rattle.std.specs.Prelude.{◌≡◌, ℕ, Bool, true, false, ◌&&◌, ◌||◌, List, [], ◌∷◌, ◌==◌, ◌⊎◌}

-- x is a member of the list
abbrev pub In : {X : Type 0} → X → List X → Type 0
In x [] = ⊥
In x (y ∷ ys) = (x ≡ y) ⊎ In x ys

-- each member has the property
abbrev pub Every : {X : Type 0} → (X → Type 0) → List X → Type 0
Every P [] = Unit {0}
Every P (x ∷ xs) = P x × Every P xs

-- whether the number is a member
abbrev pub is_in : ℕ → List ℕ → Bool
is_in n [] = false
is_in n (m ∷ ms) = (n == m) || is_in n ms

-- whether a member satisfies the test
abbrev pub any_of : {X : Type 0} → (X → Bool) → List X → Bool
any_of test [] = false
any_of test (x ∷ xs) = test x || any_of test xs

-- whether each member satisfies the test
abbrev pub all_of : {X : Type 0} → (X → Bool) → List X → Bool
all_of test [] = true
all_of test (x ∷ xs) = test x && all_of test xs
