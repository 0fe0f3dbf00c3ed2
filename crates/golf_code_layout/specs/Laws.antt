-- The laws of pieces, as statements.
use Rattle.std.specs.Prelude.{◌≡◌, ℕ, List, length}
use Rattle.golf_code_layout.specs.Piece.{Piece, size, placed}

-- a piece has its size wherever it is placed
abbrev pub PlacedSize : Type 0
PlacedSize = (p : Piece) (at : ℕ) (ts : List ℕ) → length (placed p at ts) ≡ size p
