-- Left sides, by the kinds of places (Go specification, "Assignment statements", "Address operators").
use Rattle.std.specs.Prelude.{◌≡◌, ℕ, Result, Ok, Err, List}
use Rattle.golf_base.specs.declared.Memory.{Memory}
use Rattle.golf_data.specs.declared.code.Instr.{Instr}
use Rattle.golf_check_types.specs.declared.facts.Fact.{Fact}
use Rattle.golf_check_types.specs.declared.operands.Operand.{Operand}
use Rattle.golf_check_types.specs.declared.operands.Where.TheVariants as at
use Rattle.golf_code_layout.specs.Piece.{Piece, op}
use Rattle.golf_code_of.specs.declared.tables.Tables.{Tables}
use Rattle.golf_code_of.specs.Expressions.{Made, name}
use Rattle.golf_code_expressions.specs.declared.places.LeftSide.{LeftSide}
use Rattle.golf_code_expressions.specs.declared.places.LeftSide.TheVariants as place
use Rattle.golf_code_expressions.specs.declared.writer.Writer.{Writer}
use Rattle.golf_code_expressions.specs.WriterClauses.{with_piece}

-- the pieces that double the operands that name the place, turn them into the value, and take them with a new value on
-- top

abbrev pub twice_of : ℕ → LeftSide → Piece
twice_of l (place.Field i) = op l Instr.Dup
twice_of l place.Element = op l Instr.Dup2
twice_of l _ = Piece.Empty

abbrev pub read_of : ℕ → LeftSide → Piece
read_of l (place.Variable (at.Slot i)) = op l (Instr.Load i)
read_of l (place.Variable (at.Global g)) = op l (Instr.LoadGlobal g)
read_of l (place.Field i) = op l (Instr.Field i)
read_of l place.Element = op l Instr.Index
read_of l _ = Piece.Empty

abbrev pub store_of : ℕ → LeftSide → Piece
store_of l (place.Variable (at.Slot i)) = op l (Instr.Store i)
store_of l (place.Variable (at.Global g)) = op l (Instr.StoreGlobal g)
store_of l place.Blank = op l Instr.Drop
store_of l (place.Field i) = op l (Instr.SetField i)
store_of l place.Element = op l Instr.SetIndex
store_of l place.Nothing = Piece.Empty

-- a left side with such code has this kind of place
pub record HasLeftSide (l : ℕ) (p : LeftSide) (x : Made) : Type 0 where
  pub twice : x.twice ≡ twice_of l p
  pub read : x.read ≡ read_of l p
  pub store : x.store ≡ store_of l p

-- the operands that name the place were added, and the answer is its kind
abbrev pub TellsLeftSide : ℕ → Result LeftSide Memory → Made → Writer → Writer → Type 0
TellsLeftSide l (Ok p) x old new = HasLeftSide l p x × (new.draft ≡ with_piece old.draft x.parts)
TellsLeftSide l (Err e) x old new = Unit {0}

-- the same, and these facts are left
abbrev pub TellsAll : ℕ → Result LeftSide Memory → Made → List Fact → Writer → Writer → Type 0
TellsAll l (Ok p) x left old new = HasLeftSide l p x
    × (new ≡ record { facts = left; draft = with_piece old.draft x.parts })
TellsAll l (Err e) x left old new = Unit {0}

-- a name with this meaning has this kind of place, and no operand names it
abbrev pub IsVariable : Operand → LeftSide → Type 0
IsVariable m p = (l : ℕ) (t : Tables) → HasLeftSide l p (name l t m) × ((name l t m).parts ≡ Piece.Empty)
