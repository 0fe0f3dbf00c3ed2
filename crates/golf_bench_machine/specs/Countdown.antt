-- Turns with falling numbers.
use Rattle.std.specs.Prelude.{ℕ, zero, suc, List, [], ◌∷◌}
use Rattle.golf_model.specs.Runs.{Event}

-- the turns with the numbers below this one, from the largest down
abbrev pub counted_down : ℕ → List Event
counted_down zero = []
counted_down (suc n) = Event.Turn n ∷ counted_down n
