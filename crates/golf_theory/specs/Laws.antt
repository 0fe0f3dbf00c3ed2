-- The main laws, as statements.
use Rattle.std.specs.Prelude.{◌≡◌, ℕ, ◌≤◌, Bool, true, false, List, Some, None, ◌↔◌, get_or, length, sum}
use Rattle.golf_theory.specs.Membership.{In, Every, is_in}
use Rattle.golf_theory.specs.Maps.{Entry, find, put, add, only, keys_where, map_values, IsRising, AllBelow}
use Rattle.golf_theory.specs.Derivation.{Derived}
use Rattle.golf_theory.specs.Reached.{Reached}
use Rattle.golf_theory.specs.Least.{least}
use Rattle.golf_theory.specs.Counts.{times}

-- what is found at a key after a change there, and at every other key
abbrev pub FindPut : Type 0 → Type 0
FindPut X = (k : ℕ) (v : X) (es : List (ℕ × X)) → ((old : X) → find k es ≡ Some old → find k (put k v es) ≡ Some v)
    × (find k es ≡ None → put k v es ≡ es) × ((j : ℕ) → (j ≡ k → ⊥) → find j (put k v es) ≡ find j es)

-- what is found at a new key after an addition, and at every other key
abbrev pub FindAdd : Type 0 → Type 0
FindAdd X = (k : ℕ) (v : X) (es : List (ℕ × X)) → (AllBelow k es → find k (add k v es) ≡ Some v)
    × ((j : ℕ) → (j ≡ k → ⊥) → find j (add k v es) ≡ find j es)

-- what is found after a cut
abbrev pub FindOnly : Type 0 → Type 0
FindOnly X = (p : ℕ → Bool) (k : ℕ) (es : List (ℕ × X)) → (p k ≡ true → find k (only p es) ≡ find k es)
    × (p k ≡ false → find k (only p es) ≡ None)

-- a cut commutes with each change
abbrev pub OnlyGoes : Type 0 → Type 0
OnlyGoes X = (p : ℕ → Bool) (k : ℕ) (v : X) (es : List (ℕ × X)) → (only p (put k v es) ≡ put k v (only p es))
    × (p k ≡ true → only p (add k v es) ≡ add k v (only p es))
    × ((f : ℕ → X → X) → only p (map_values f es) ≡ map_values f (only p es))

-- the keys that satisfy a test are exactly the keys of the entries that pass it
abbrev pub KeysSatisfy : Type 0 → Type 0
KeysSatisfy X = (p : ℕ → X → Bool) (k : ℕ) (es : List (ℕ × X)) → In k (keys_where p es)
    ↔ ((x : X) × Entry es k x × (p k x ≡ true))

-- in a map whose keys rise, the entries are what is found
abbrev pub EntriesFound : Type 0 → Type 0
EntriesFound X = (k : ℕ) (x : X) (es : List (ℕ × X)) → IsRising es → Entry es k x ↔ (find k es ≡ Some x)

-- keys that rise still rise after each change
abbrev pub KeysRise : Type 0 → Type 0
KeysRise X = (p : ℕ → Bool) (k : ℕ) (v : X) (es : List (ℕ × X)) → IsRising es → IsRising (put k v es)
    × IsRising (only p es) × (AllBelow k es → IsRising (add k v es))

-- the reached set has the roots, is closed under the steps, and lies in each set that does both
abbrev pub ReachedLeast : Type 0 → Type 0
ReachedLeast X = (leads : X → X → Bool) (roots : List X) →
    ((x : X) → In x roots → Reached (λ y. In y roots) (λ q y. leads q y ≡ true) x)
    × ((q x : X) → Reached (λ y. In y roots) (λ p y. leads p y ≡ true) q → leads q x ≡ true
    → Reached (λ y. In y roots) (λ p y. leads p y ≡ true) x)
    × ((test : X → Bool) → Every (λ y. test y ≡ true) roots
    → ((q x : X) → test q ≡ true → leads q x ≡ true → test x ≡ true) → (x : X)
    → Reached (λ y. In y roots) (λ q y. leads q y ≡ true) x → test x ≡ true)

-- the computed least set is exactly what the rule derives, if the rule is monotone and derives candidates only
abbrev pub LeastDerived : Type 0 → Type 0
LeastDerived X = (rule : List X → X → Bool) (candidates : List X)
    → ((xs ys : List X) (x : X) → ((y : X) → In y xs → In y ys) → rule xs x ≡ true → rule ys x ≡ true)
    → ((xs : List X) (x : X) → ((y : X) → In y xs → In y candidates) → rule xs x ≡ true → In x candidates)
    → (x : X) → In x (least rule candidates) ↔ Derived (λ xs y. rule xs y ≡ true) x

-- a list in which each number occurs at most as often as its word says is no longer than the words' sum
abbrev pub Counted : Type 0
Counted = (xs words : List ℕ) → ((x : ℕ) → times x xs ≤ get_or words x 0) → length xs ≤ sum words

-- a number is a member exactly when it occurs at least once, and exactly when the test says so
abbrev pub MembersCount : Type 0
MembersCount = (x : ℕ) (xs : List ℕ) → (In x xs ↔ (1 ≤ times x xs)) × (In x xs ↔ (is_in x xs ≡ true))
