-- Structured code that has shapes, wherever it is placed.
use Rattle.std.specs.Prelude.{◌≡◌, ℕ, ◌+◌, List, [], ◌∷◌, ◌++◌, length, Option, Some, None, slice_get}
use Rattle.golf_theory.specs.Membership.{In, Every}
use Rattle.golf_data.specs.declared.code.CodeLine.{CodeLine}
use Rattle.golf_data.specs.declared.code.SelectCase.{SelectCase}
use Rattle.golf_model_typing.specs.Types.{ValueType, Shape, FunctionTypes, Types}
use Rattle.golf_model_typing.specs.Shapes.{LeadsToShape, InstructionFits, case_takes, case_leaves}
use Rattle.golf_code_layout.specs.Piece.{Piece, size, placed}

abbrev pub shape : List ValueType → List ℕ → Shape
shape ts assigned = record { operands = ts; assigned = assigned }

-- the function with all its shapes
abbrev pub filled : FunctionTypes → List Shape → FunctionTypes
filled ft full = record ft { shapes = full }

-- these shapes are at this place
abbrev pub ShapesStand : List Shape → ℕ → List Shape → Type 0
ShapesStand full at [] = Unit {0}
ShapesStand full at (x ∷ xs) = (slice_get full at ≡ Some x) × ShapesStand full (at + 1) xs

-- these lines fit at this place
abbrev pub Fit : Types → FunctionTypes → ℕ → List CodeLine → Type 0
Fit types ft at [] = Unit {0}
Fit types ft at (l ∷ ls) = ((sh : Shape) × (slice_get ft.shapes at ≡ Some sh) × InstructionFits types ft at l.instr sh)
    × Fit types ft (at + 1) ls

-- the code can go on at this place with this shape
abbrev pub To : FunctionTypes → Shape → ℕ → Type 0
To ft sh k = LeadsToShape ft sh.operands sh.assigned k

-- the targets have these shapes
abbrev pub Exits : FunctionTypes → List Shape → List ℕ → Type 0
Exits ft [] ts = Unit {0}
Exits ft (sh ∷ shs) [] = ⊥
Exits ft (sh ∷ shs) (t ∷ ts) = To ft sh t × Exits ft shs ts

-- A piece leads from one shape to another, and the targets around have these shapes.
pub record Has (types : Types) (ft : FunctionTypes) (p : Piece) (from to : Shape) (exits : List Shape) : Type 0 where
  pub shapes : List Shape
  pub long : length shapes ≡ size p
  pub enters : (full : List Shape) (at : ℕ) → ShapesStand full at shapes → To (filled ft full) to (at + size p)
      → To (filled ft full) from at
  pub fits : (full : List Shape) (at : ℕ) (ts : List ℕ) → ShapesStand full at shapes
      → To (filled ft full) to (at + size p)
      → Exits (filled ft full) exits ts → Fit types (filled ft full) at (placed p at ts)

-- A piece begins with this shape, and does not go on after itself.
pub record StopsAfter (types : Types) (ft : FunctionTypes) (p : Piece) (from : Shape) : Type 0 where
  pub shapes : List Shape
  pub long : length shapes ≡ size p
  pub enters : (full : List Shape) (at : ℕ) → ShapesStand full at shapes → To (filled ft full) from at
  pub fits : (full : List Shape) (at : ℕ) → ShapesStand full at shapes → Fit types (filled ft full) at (placed p at [])

-- the target of this number takes these operands, and asks only for these slots
abbrev pub Reaches : List Shape → List ValueType → List ℕ → ℕ → Type 0
Reaches exits ts assigned k = (needed : List ℕ) × (slice_get exits k ≡ Some (shape ts needed))
    × Every (λ i. In i assigned) needed

-- the operands of the cases are in source order on top of `rest`, and each case reaches its target
abbrev pub CasesReach : List Shape → List ℕ → List ValueType → List SelectCase → List ValueType → List ValueType
    → Type 0
CasesReach exits assigned below [] rest operands = operands ≡ rest
CasesReach exits assigned below (k ∷ ks) rest operands =
    (e : ValueType) × Reaches exits (case_leaves k.kind e ++ below) assigned k.target
    × CasesReach exits assigned below ks (case_takes k.kind e rest) operands

abbrev pub DefaultReaches : List Shape → List ℕ → List ValueType → Option ℕ → Type 0
DefaultReaches exits assigned below None = Unit {0}
DefaultReaches exits assigned below (Some k) = Reaches exits below assigned k
