-- Finite maps from numbers, as lists of entries (key, value) in rising order of key.
use Rattle.std.specs.Prelude.{nat_lt, ◌≡◌, ℕ, suc, ◌<◌, ◌≤◌, Bool, cond, List, [], ◌∷◌, ◌++◌, map, Option, Some, None}
use Rattle.std.specs.Prelude.{◌==◌, ◌⊎◌}

-- the map has this entry
abbrev pub Entry : {X : Type 0} → List (ℕ × X) → ℕ → X → Type 0
Entry [] k x = ⊥
Entry (e ∷ es) k x = ((k ≡ e.0) × (x ≡ e.1)) ⊎ Entry es k x

-- the value at the key
abbrev pub find : {X : Type 0} → ℕ → List (ℕ × X) → Option X
find k [] = None
find k (e ∷ es) = cond (k == e.0) (Some e.1) (find k es)

-- the value at the key becomes v, in place; without an entry at the key the map is unchanged
abbrev pub put : {X : Type 0} → ℕ → X → List (ℕ × X) → List (ℕ × X)
put k v [] = []
put k v (e ∷ es) = (e.0, cond (k == e.0) v e.1) ∷ put k v es

-- one more entry, at the end
abbrev pub add : {X : Type 0} → ℕ → X → List (ℕ × X) → List (ℕ × X)
add k v es = es ++ (k, v) ∷ []

-- one more entry, at its place in rising order of key
abbrev pub insert : {X : Type 0} → ℕ → X → List (ℕ × X) → List (ℕ × X)
insert k v [] = (k, v) ∷ []
insert k v (e ∷ es) = cond (nat_lt e.0 k) (e ∷ insert k v es) ((k, v) ∷ e ∷ es)

-- the entries whose keys satisfy the test
abbrev pub only : {X : Type 0} → (ℕ → Bool) → List (ℕ × X) → List (ℕ × X)
only p [] = []
only p (e ∷ es) = cond (p e.0) (e ∷ only p es) (only p es)

-- the keys of the entries that satisfy the test, in their order
abbrev pub keys_where : {X : Type 0} → (ℕ → X → Bool) → List (ℕ × X) → List ℕ
keys_where p [] = []
keys_where p (e ∷ es) = cond (p e.0 e.1) (e.0 ∷ keys_where p es) (keys_where p es)

-- all keys, in their order
abbrev pub keys : {X : Type 0} → List (ℕ × X) → List ℕ
keys es = map (λ e. e.0) es

-- each value becomes what the function gives for its key and the value
abbrev pub map_values : {X Y : Type 0} → (ℕ → X → Y) → List (ℕ × X) → List (ℕ × Y)
map_values f [] = []
map_values f (e ∷ es) = (e.0, f e.0 e.1) ∷ map_values f es

-- the keys rise strictly, and the first is at least k
abbrev pub Rises : {X : Type 0} → ℕ → List (ℕ × X) → Type 0
Rises k [] = Unit {0}
Rises k (e ∷ es) = (k ≤ e.0) × Rises (suc e.0) es

-- the keys rise strictly
abbrev pub IsRising : {X : Type 0} → List (ℕ × X) → Type 0
IsRising es = Rises 0 es

-- all keys are below n
abbrev pub AllBelow : {X : Type 0} → ℕ → List (ℕ × X) → Type 0
AllBelow n [] = Unit {0}
AllBelow n (e ∷ es) = (e.0 < n) × AllBelow n es

-- how many entries at the front have a smaller key
abbrev pub rank : {X : Type 0} → ℕ → List (ℕ × X) → ℕ
rank k [] = 0
rank k (e ∷ es) = cond (nat_lt e.0 k) (suc (rank k es)) 0
