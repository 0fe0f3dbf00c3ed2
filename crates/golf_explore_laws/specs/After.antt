-- States after turns. Output is not compared: each of them has printed nothing.
use Rattle.std.specs.Prelude.{ℕ, List, [], ◌∷◌}
use Rattle.golf_data.specs.declared.code.Code.{Code}
use Rattle.golf_model.specs.State.{State}
use Rattle.golf_model.specs.Turn.{step}

-- the state without its output
abbrev pub silent : State → State
silent s = record s { output = [] }

-- the state after the turn of this number
abbrev pub after : Code → State → ℕ → State
after code s number = silent (step code s number)

-- the state after the turns of these numbers
abbrev pub after_all : Code → State → List ℕ → State
after_all code s [] = s
after_all code s (n ∷ ns) = after_all code (after code s n) ns
