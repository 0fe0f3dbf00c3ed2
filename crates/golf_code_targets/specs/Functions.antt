-- The function of a list of parts.
use Rattle.std.specs.Prelude.{◌≡◌, ℕ, Bool, List}
use Rattle.golf_data.specs.declared.code.Function.{Function}
use Rattle.golf_code_layout.specs.Piece.{Piece}
use Rattle.golf_code_of.specs.Files.{function}
use Rattle.golf_code_layout.specs.declared.emitted.Emitted.{Emitted}
use Rattle.golf_code_layout.specs.Emission.{flat}

-- the function whose body is the piece of these parts
abbrev pub IsFunction : List Bool → ℕ → ℕ → ℕ → List Emitted → Function → Type 0
IsFunction gives params slots line emitted f = (p : Piece) → emitted ≡ flat p → f ≡ function gives params slots line p
