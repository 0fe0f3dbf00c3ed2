-- States that differ only in earlier output.
use Rattle.std.specs.Prelude.{ℕ, List, ◌++◌}
use Rattle.golf_model.specs.State.{State}

-- the state with these bytes before its output
abbrev pub prefixed : List ℕ → State → State
prefixed w s = record s { output = w ++ s.output }
