-- The number of goroutines that the changes of a turn start.
use Rattle.std.specs.Prelude.{Bool, true, false, List, [], ◌∷◌}
use Rattle.golf_model.specs.Changes.{Change}

abbrev pub starts_one : Change → Bool
starts_one (Change.Spawn r) = true
starts_one _ = false

abbrev pub Quiet_by : Bool → Type 0 → Type 0
Quiet_by true rest = ⊥
Quiet_by false rest = rest

-- the changes start no goroutine
abbrev pub Quiet : List Change → Type 0
Quiet [] = Unit {0}
Quiet (c ∷ cs) = Quiet_by (starts_one c) (Quiet cs)

abbrev pub Few_by : Bool → Type 0 → Type 0 → Type 0
Few_by true none rest = none
Few_by false none rest = rest

-- the changes start at most one goroutine
abbrev pub Few : List Change → Type 0
Few [] = Unit {0}
Few (c ∷ cs) = Few_by (starts_one c) (Quiet cs) (Few cs)
