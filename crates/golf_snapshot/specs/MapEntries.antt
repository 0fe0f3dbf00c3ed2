-- The entries of a map, one after another.
use Rattle.std.specs.Prelude.{ℕ, Bool, false, not, List, [], ◌∷◌, ◌++◌, map, filter, Option, Some, None}
use Rattle.golf_data.specs.declared.value.Object.{Object}
use Rattle.golf_model.specs.Views.{GoroutineView}
use Rattle.golf_model.specs.Refs.{object_refs, refs_if}
use Rattle.golf_model.specs.Sleepers.{Sleeper}
use Rattle.golf_snapshot.specs.Parts.{is_awake, sleeper_of}

-- the entry with this key and value, if there is a value
abbrev pub entry_at : {X : Type 0} → ℕ → Option X → List (ℕ × X)
entry_at k None = []
entry_at k (Some x) = (k, x) ∷ []

-- the references of an object, if it is there
abbrev pub refs_at : Option Object → List ℕ
refs_at None = []
refs_at (Some x) = object_refs x

-- the sleepers among these goroutines
abbrev pub sleepers_of : List (ℕ × Object) → List (ℕ × GoroutineView) → List Sleeper
sleepers_of objects es = map (sleeper_of objects) (filter (λ e. not (is_awake e.0 e.1)) es)

-- whether the goroutine with this number is there and is a sleeper
abbrev pub sleeps_at : ℕ → Option GoroutineView → Bool
sleeps_at g None = false
sleeps_at g (Some r) = not (is_awake g r)

-- the nodes that nodes with a finaliser refer to, by flags and rows
abbrev pub finalised_rows : List Bool → List (List ℕ) → List ℕ
finalised_rows [] rows = []
finalised_rows (b ∷ bs) [] = []
finalised_rows (b ∷ bs) (row ∷ rows) = refs_if b row ++ finalised_rows bs rows
