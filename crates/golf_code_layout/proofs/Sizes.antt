-- A piece has its size wherever it is placed.
-- For: `placed_pieces_have_their_size`, src/lib.rt; `placed`, specs/Piece.antt
-- By: induction over the tree of a piece
use Rattle.std.proofs.Common.{◌+◌, ◌∷◌, refl, arith, length-append}
use Rattle.golf_code_layout.specs.Piece.{Piece, size, placed}
use Rattle.golf_code_layout.specs.Laws.{PlacedSize}

pub placed-size : PlacedSize
placed-size Piece.Empty at ts = refl
placed-size (Piece.Op i line) at ts = refl
placed-size (Piece.Then p q) at ts =
    let e = length-append (placed p at ts) (placed q (at + size p) ts) in
    let f = placed-size p at ts in
    let g = placed-size q (at + size p) ts in
    omega (arith, e, f, g)
placed-size (Piece.Exit line k) at ts = refl
placed-size (Piece.Unless line k) at ts = refl
placed-size (Piece.Choose line cases otherwise) at ts = refl
placed-size (Piece.Block p) at ts = placed-size p at ((at + size p) ∷ ts)
placed-size (Piece.Again p) at ts = placed-size p at (at ∷ ts)
