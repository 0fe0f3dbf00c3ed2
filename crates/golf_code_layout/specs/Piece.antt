-- Structured code: the code of a construct before it has a place. A jump names its target by a number: the innermost
-- target around the jump has number 0.
use Rattle.std.specs.Prelude.{ℕ, zero, suc, ◌+◌, List, [], ◌∷◌, ◌++◌, map, Option}
use Rattle.std.specs.Option.{option_map}
use Rattle.golf_data.specs.declared.code.Instr.{Instr}
use Rattle.golf_data.specs.declared.code.CodeLine.{CodeLine}
use Rattle.golf_data.specs.declared.code.SelectCase.{SelectCase}

pub data Piece : Type 0 where
  Empty : Piece
  -- an instruction without a target
  Op : (i : Instr) (line : ℕ) → Piece
  Then : (p q : Piece) → Piece
  -- goes on at the target of this number
  Exit : (line k : ℕ) → Piece
  -- the same if the operand is false
  Unless : (line k : ℕ) → Piece
  -- a `select`: each case goes on at the target of its number, and so does `default`
  Choose : (line : ℕ) (cases : List SelectCase) (otherwise : Option ℕ) → Piece
  -- in p, target 0 is the place after p, and the outer targets have numbers one higher
  Block : (p : Piece) → Piece
  -- the same, except that target 0 is the beginning of p
  Again : (p : Piece) → Piece

-- how many instructions a piece has
abbrev pub size : Piece → ℕ
size Piece.Empty = 0
size (Piece.Op i line) = 1
size (Piece.Then p q) = size p + size q
size (Piece.Exit line k) = 1
size (Piece.Unless line k) = 1
size (Piece.Choose line cases otherwise) = 1
size (Piece.Block p) = size p
size (Piece.Again p) = size p

-- the pieces one after another
abbrev pub all : List Piece → Piece
all [] = Piece.Empty
all (p ∷ ps) = Piece.Then p (all ps)

-- an instruction on a line
abbrev pub op : ℕ → Instr → Piece
op line i = Piece.Op i line

abbrev pub on : Instr → ℕ → CodeLine
on i line = record { instr = i; line = line }

-- the place of a target
abbrev pub target : List ℕ → ℕ → ℕ
target [] k = 0
target (t ∷ ts) zero = t
target (t ∷ ts) (suc k) = target ts k

abbrev pub case_at : List ℕ → SelectCase → SelectCase
case_at ts c = record { kind = c.kind; target = target ts c.target }

-- the code at a place; the targets around have these places, the innermost first
abbrev pub placed : Piece → ℕ → List ℕ → List CodeLine
placed Piece.Empty at ts = []
placed (Piece.Op i line) at ts = on i line ∷ []
placed (Piece.Then p q) at ts = placed p at ts ++ placed q (at + size p) ts
placed (Piece.Exit line k) at ts = on (Instr.Jump (target ts k)) line ∷ []
placed (Piece.Unless line k) at ts = on (Instr.JumpIfNot (target ts k)) line ∷ []
placed (Piece.Choose line cases otherwise) at ts =
    on (Instr.Select (map (case_at ts) cases) (option_map (target ts) otherwise)) line ∷ []
placed (Piece.Block p) at ts = placed p at ((at + size p) ∷ ts)
placed (Piece.Again p) at ts = placed p at (at ∷ ts)
