-- The code of each kind of expression, from the judgments and the code of its parts (Go specification, "Expressions").
use Rattle.std.specs.Prelude.{ℕ, ◌+◌, pos, true, false, List, [], ◌∷◌, length, Option, Some}
use Rattle.golf_syntax_trees.specs.declared.expressions.UnaryOperator.{UnaryOperator}
use Rattle.golf_syntax_trees.specs.declared.expressions.UnaryOperator.TheVariants as unary
use Rattle.golf_syntax_trees.specs.declared.expressions.BinaryOperator.{BinaryOperator}
use Rattle.golf_syntax_trees.specs.declared.expressions.BinaryOperator.TheVariants as binary
use Rattle.golf_data.specs.declared.code.Instr.{Instr}
use Rattle.golf_check_types.specs.declared.types.Base.{Base}
use Rattle.golf_check_types.specs.declared.types.Base.TheVariants as base
use Rattle.golf_check_types.specs.declared.types.GoType.{GoType}
use Rattle.golf_check_types.specs.declared.operands.Operand.{Operand}
use Rattle.golf_check_types.specs.declared.operands.Operand.TheVariants as operand
use Rattle.golf_check_types.specs.declared.operands.Where.{Where}
use Rattle.golf_check_types.specs.declared.operands.Where.TheVariants as place
use Rattle.golf_check_types.specs.declared.scopes.FileScope.{FileScope}
use Rattle.golf_check_types.specs.Expressions.{struct_of, field_place}
use Rattle.golf_code_layout.specs.Piece.{Piece, all, op}
use Rattle.golf_code_of.specs.declared.tables.Tables.{Tables}
use Rattle.golf_code_of.specs.Values.{push, constant, makes}

-- The code of an expression. `piece` pushes its value, or its receiver if it is a method. The others are for a left
-- side: `parts` pushes the operands that name its place, `twice` doubles them, `read` turns them into the value, and
-- `store` takes them with a new value on top.
pub record Made : Type 0 where
  pub piece : Piece
  pub parts : Piece
  pub twice : Piece
  pub read : Piece
  pub store : Piece

-- the code of an expression that is no place
abbrev pub only : Piece → Made
only p = record { piece = p; parts = Piece.Empty; twice = Piece.Empty; read = Piece.Empty; store = Piece.Empty }

abbrev pub in_place : Piece → Piece → Piece → Piece → Made
in_place parts twice read store = record {
  piece = all (parts ∷ read ∷ []);
  parts = parts;
  twice = twice;
  read = read;
  store = store;
}

-- Names: a variable is loaded or stored; a constant, `true`, `false` and `nil` are pushed; a value stored in `_` is
-- dropped.

abbrev pub variable : ℕ → Where → Made
variable l (place.Slot i) = in_place Piece.Empty Piece.Empty (op l (Instr.Load i)) (op l (Instr.Store i))
variable l (place.Global g) = in_place Piece.Empty Piece.Empty (op l (Instr.LoadGlobal g)) (op l (Instr.StoreGlobal g))

abbrev pub name : ℕ → Tables → Operand → Made
name l t (operand.Variable w of_type) = variable l w
name l t (operand.Constant k b) = only (op l (push (constant t k)))
name l t (operand.Truth b) = only (op l (Instr.Bool b))
name l t operand.Nil = only (op l Instr.Nil)
name l t operand.Blank = in_place Piece.Empty Piece.Empty Piece.Empty (op l Instr.Drop)
name l t _ = only Piece.Empty

-- Literals, `make` and `new`.

-- puts a value into a field
abbrev pub put : ℕ → ℕ → Piece → Piece
put l i e = all (op l Instr.Dup ∷ e ∷ op l (Instr.SetField i) ∷ [])

abbrev pub puts : ℕ → FileScope → Option Base → List (List ℕ) → List Piece → Piece
puts l f b (n ∷ ns) (e ∷ es) = Piece.Then (put l (field_place f b n) e) (puts l f b ns es)
puts l f b _ _ = Piece.Empty

-- `&T{f: e, ..}` and `new(T)`
abbrev pub struct_literal : ℕ → FileScope → Option Base → List (List ℕ) → List Piece → Made
struct_literal l f b names es = only (all (op l (Instr.NewStruct (struct_of b)) ∷ puts l f b names es ∷ []))

abbrev pub new_struct : ℕ → Option Base → Made
new_struct l b = only (op l (Instr.NewStruct (struct_of b)))

-- `&sync.T{}` and `new(sync.T)`
abbrev pub new_sync : ℕ → Option Base → Made
new_sync l (Some base.Mutex) = only (op l Instr.NewMutex)
new_sync l (Some base.Group) = only (op l Instr.NewGroup)
new_sync l (Some base.ReadWriteMutex) = only (op l Instr.NewRw)
new_sync l _ = only Piece.Empty

-- puts the elements from index i on
abbrev pub elements : ℕ → ℕ → List Piece → Piece
elements l i [] = Piece.Empty
elements l i (e ∷ es) = Piece.Then (all (op l Instr.Dup ∷ op l (Instr.Int (pos i)) ∷ e ∷ op l Instr.SetIndex ∷ []))
    (elements l (i + 1) es)

-- `[]T{e, ..}`, with the type of the slice
abbrev pub slice_literal : ℕ → Option GoType → List Piece → Made
slice_literal l slice es = only (all (op l (Instr.Int (pos (length es))) ∷ op l (makes slice) ∷ elements l 0 es ∷ []))

-- `make(T)`, a channel without a buffer, and `make(T, e)`
abbrev pub made : ℕ → Option GoType → Made
made l t = only (all (op l (Instr.Int (pos 0)) ∷ op l (makes t) ∷ []))

abbrev pub made_sized : ℕ → Option GoType → Piece → Made
made_sized l t e = only (all (e ∷ op l (makes t) ∷ []))

-- Selectors: a field is a place, a method pushes its receiver, and the mutex of a condition is a value.

abbrev pub selector : ℕ → Operand → Piece → Made
selector l (operand.Field i t) x = in_place x (op l Instr.Dup) (op l (Instr.Field i)) (op l (Instr.SetField i))
selector l (operand.Value t) x = only (all (x ∷ op l Instr.CondMutex ∷ []))
selector l (operand.Method k) x = only x
selector l (operand.BuiltIn b) x = only x
selector l _ x = only Piece.Empty

abbrev pub index : ℕ → Piece → Piece → Made
index l a i = in_place (all (a ∷ i ∷ [])) (op l Instr.Dup2) (op l Instr.Index) (op l Instr.SetIndex)

-- Operators.

abbrev pub unary_instr : UnaryOperator → Instr
unary_instr unary.Negate = Instr.Neg
unary_instr unary.Not = Instr.Not
unary_instr unary.Receive = Instr.Receive

abbrev pub unary_operator : ℕ → UnaryOperator → Piece → Made
unary_operator l o e = only (all (e ∷ op l (unary_instr o) ∷ []))

-- the instructions after both operands
abbrev pub combining : ℕ → BinaryOperator → Piece
combining l binary.Equal = op l Instr.Eq
combining l binary.NotEqual = all (op l Instr.Eq ∷ op l Instr.Not ∷ [])
combining l binary.Less = op l Instr.Less
combining l binary.AtMost = op l Instr.AtMost
combining l binary.Greater = all (op l Instr.AtMost ∷ op l Instr.Not ∷ [])
combining l binary.AtLeast = all (op l Instr.Less ∷ op l Instr.Not ∷ [])
combining l binary.Add = op l Instr.Add
combining l binary.Subtract = op l Instr.Sub
combining l binary.Multiply = op l Instr.Mul
combining l binary.Divide = op l Instr.Div
combining l binary.Remainder = op l Instr.Rem
combining l _ = Piece.Empty

-- p, and then q if it gives true; else r
abbrev pub either : ℕ → Piece → Piece → Piece → Piece
either l p q r = Piece.Block (all (Piece.Block (all (p ∷ Piece.Unless l 0 ∷ q ∷ Piece.Exit l 1 ∷ [])) ∷ r ∷ []))

-- The second operand of `||` and `&&` is evaluated only if it decides ("Logical operators").
abbrev pub binary_piece : ℕ → BinaryOperator → Piece → Piece → Piece
binary_piece l binary.Or a b = either l (all (a ∷ op l Instr.Not ∷ [])) b (op l (Instr.Bool true))
binary_piece l binary.And a b = either l a b (op l (Instr.Bool false))
binary_piece l o a b = all (a ∷ b ∷ combining l o ∷ [])

abbrev pub binary_operator : ℕ → BinaryOperator → Piece → Piece → Made
binary_operator l o a b = only (binary_piece l o a b)
