-- The laws of structured code with shapes, as statements: one for each way of putting pieces together.
use Rattle.std.specs.Prelude.{◌≡◌, ℕ, ◌+◌, ◌<◌, List, [], ◌∷◌, Option, length}
use Rattle.golf_theory.specs.Membership.{In, Every}
use Rattle.golf_data.specs.declared.code.Function.{Function}
use Rattle.golf_data.specs.declared.code.Instr.{Instr}
use Rattle.golf_data.specs.declared.code.SelectCase.{SelectCase}
use Rattle.golf_model_typing.specs.Types.{ValueType, Shape, Signature, FunctionTypes, Types, with_shapes}
use Rattle.golf_model_typing.specs.Shapes.{InstructionFits, FunctionFits, slot_types}
use Rattle.golf_code_layout.specs.Piece.{Piece, placed}
use Rattle.golf_code_shapes.specs.Has.{shape, filled, To, Has, StopsAfter, Reaches, CasesReach, DefaultReaches}

-- how pieces with shapes are put together
pub record PutTogether (types : Types) (ft : FunctionTypes) : Type 0 where
  pub empty : (sh : Shape) (exits : List Shape) → Has types ft Piece.Empty sh sh exits
  pub op : (i : Instr) (line : ℕ) (from to : Shape) (exits : List Shape)
      → ((full : List Shape) (k : ℕ) → To (filled ft full) to (k + 1) → InstructionFits types (filled ft full) k i from)
      → Has types ft (Piece.Op i line) from to exits
  pub then : (p q : Piece) (from mid to : Shape) (exits : List Shape) → Has types ft p from mid exits
      → Has types ft q mid to exits → Has types ft (Piece.Then p q) from to exits
  pub exit : (line k : ℕ) (ts : List ValueType) (assigned : List ℕ) (to : Shape) (exits : List Shape)
      → Reaches exits ts assigned k → Has types ft (Piece.Exit line k) (shape ts assigned) to exits
  pub unless : (line k : ℕ) (ts : List ValueType) (assigned : List ℕ) (exits : List Shape)
      → Reaches exits ts assigned k → Has types ft (Piece.Unless line k) (shape (ValueType.Bool ∷ ts) assigned)
      (shape ts assigned) exits
  pub choose : (line : ℕ) (cases : List SelectCase) (otherwise : Option ℕ) (below ts : List ValueType)
      (assigned : List ℕ) (to : Shape) (exits : List Shape)
      → CasesReach exits assigned below cases below ts → DefaultReaches exits assigned below otherwise
      → Has types ft (Piece.Choose line cases otherwise) (shape ts assigned) to exits
  pub block : (p : Piece) (from to : Shape) (exits : List Shape) → Has types ft p from to (to ∷ exits)
      → Has types ft (Piece.Block p) from to exits
  pub again : (p : Piece) (from to : Shape) (exits : List Shape) → Has types ft p from to (from ∷ exits)
      → Has types ft (Piece.Again p) from to exits
  -- fewer slots may be asked for after the piece
  pub weaker : (p : Piece) (from : Shape) (ts : List ValueType) (needed assigned : List ℕ) (exits : List Shape)
      → Every (λ i. In i assigned) needed → Has types ft p from (shape ts assigned) exits
      → Has types ft p from (shape ts needed) exits

abbrev pub PiecesHaveShapes : Type 0
PiecesHaveShapes = (types : Types) (ft : FunctionTypes) → PutTogether types ft

-- a body fits its types if it begins with only its parameters assigned, and ends
abbrev pub BodiesFit : Type 0
BodiesFit = (types : Types) (sig : Signature) (p : Piece) (assigned : List ℕ) (fn : Function)
    → StopsAfter types (with_shapes sig []) p (shape [] assigned) → Every (λ i. i < length sig.params) assigned
    → fn.slots ≡ length (slot_types (with_shapes sig [])) → fn.body ≡ placed p 0 []
    → (shapes : List Shape) × FunctionFits types fn (with_shapes sig shapes)
