-- The meaning of structured code, by recursion over it. Each block that is begun anew runs at most n times. Only
-- `select` looks at the places.
use Rattle.std.specs.Prelude.{ℕ, zero, suc, ◌+◌, Bool, true, false, List, ◌∷◌, map, Option}
use Rattle.std.specs.Option.{option_map}
use Rattle.golf_data.specs.declared.code.SelectCase.{SelectCase}
use Rattle.golf_code_layout.specs.Piece.{Piece, size, target, case_at}
use Rattle.golf_meaning_flat.specs.Worlds.{Told, World, Part, halted, cut_short}
use Rattle.golf_meaning_flat.specs.InstructionEffects.{Frame, Doing, doing}
use Rattle.golf_meaning_flat.specs.Flat.{targets, lower, picks, tests}

-- how a piece is left: at its end, by a target, or with the end of the whole meaning; `Lost` is for an instruction with
-- a target of its own, of which nothing is said
pub data PieceExit : Type 0 where
  Through : (c : Frame) (w : World) → PieceExit
  Leaves : (k : ℕ) (c : Frame) (w : World) → PieceExit
  Ends : (t : Told) → PieceExit
  Lost : PieceExit

abbrev pub from_part : Part Frame → PieceExit
from_part (Part.Gives c w) = PieceExit.Through c w
from_part (Part.Stops h os) = PieceExit.Ends (halted h os)

abbrev pub acted : Doing → Frame → World → PieceExit
acted (Doing.Acts f) c w = from_part (f c w)
acted _ c w = PieceExit.Lost

abbrev pub then_way : PieceExit → (Frame → World → PieceExit) → PieceExit
then_way (PieceExit.Through c w) next = next c w
then_way (PieceExit.Leaves k c w) next = PieceExit.Leaves k c w
then_way (PieceExit.Ends t) next = PieceExit.Ends t
then_way PieceExit.Lost next = PieceExit.Lost

abbrev pub unless_true : Part (Bool × Frame) → ℕ → PieceExit
unless_true (Part.Gives r w) k = elim r.0 [ true ↦ PieceExit.Through r.1 w | false ↦ PieceExit.Leaves k r.1 w ]
unless_true (Part.Stops h os) k = PieceExit.Ends (halted h os)

abbrev pub picked : Part (ℕ × Frame) → PieceExit
picked (Part.Gives r w) = PieceExit.Leaves r.0 r.1 w
picked (Part.Stops h os) = PieceExit.Ends (halted h os)

-- the way out of a block: target 0 is the place after it
abbrev pub out_of : PieceExit → PieceExit
out_of (PieceExit.Through c w) = PieceExit.Through c w
out_of (PieceExit.Leaves zero c w) = PieceExit.Through c w
out_of (PieceExit.Leaves (suc k) c w) = PieceExit.Leaves k c w
out_of (PieceExit.Ends t) = PieceExit.Ends t
out_of PieceExit.Lost = PieceExit.Lost

-- the way out of a block that can begin anew: target 0 is its beginning
abbrev pub once_more : PieceExit → (Frame → World → PieceExit) → PieceExit
once_more (PieceExit.Through c w) next = PieceExit.Through c w
once_more (PieceExit.Leaves zero c w) next = next c w
once_more (PieceExit.Leaves (suc k) c w) next = PieceExit.Leaves k c w
once_more (PieceExit.Ends t) next = PieceExit.Ends t
once_more PieceExit.Lost next = PieceExit.Lost

-- at most m rounds
abbrev pub rounds : ℕ → (Frame → World → PieceExit) → Frame → World → PieceExit
rounds zero f c w = PieceExit.Ends (cut_short w)
rounds (suc m) f c w = once_more (f c w) (rounds m f)

-- the targets of a choice as they are placed
abbrev pub placed_targets : List SelectCase → Option ℕ → List ℕ → List ℕ
placed_targets cs o ts = targets (map (case_at ts) cs) (option_map (target ts) o)

abbrev pub run : List Bool → ℕ → Piece → ℕ → List ℕ → Frame → World → PieceExit
run gives n Piece.Empty at ts c w = PieceExit.Through c w
run gives n (Piece.Op i line) at ts c w = acted (doing gives i) c w
run gives n (Piece.Then p q) at ts c w = then_way (run gives n p at ts c w) (run gives n q (at + size p) ts)
run gives n (Piece.Exit line k) at ts c w = PieceExit.Leaves k c w
run gives n (Piece.Unless line k) at ts c w = unless_true (tests c w) k
run gives n (Piece.Choose line cs o) at ts c w =
    picked (picks gives (λ k. lower (placed_targets cs o ts) (target ts k)) cs o c w)
run gives n (Piece.Block p) at ts c w = out_of (run gives n p at ((at + size p) ∷ ts) c w)
run gives n (Piece.Again p) at ts c w = rounds n (run gives n p at (at ∷ ts)) c w
