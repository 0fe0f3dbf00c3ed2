-- The code of an expression by its facts, which come first in a list, with one equation for each construct.
use Rattle.std.specs.Prelude.{ℕ, List, [], ◌∷◌, map}
use Rattle.golf_syntax_trees.specs.declared.expressions.Expr.{Expr}
use Rattle.golf_syntax_trees.specs.declared.expressions.Expr.TheOpen.{Expr-F, Element-F, Integer, Text, Name, Parens}
use Rattle.golf_syntax_trees.specs.declared.expressions.Expr.TheOpen.{StructLiteral, SyncLiteral, SliceLiteral}
use Rattle.golf_syntax_trees.specs.declared.expressions.Expr.TheOpen.{EmptyLiteral, Make, MakeSized, New, NewSync}
use Rattle.golf_syntax_trees.specs.declared.expressions.Expr.TheOpen.{Selector, Index, Call, Unary, Binary}
use Rattle.golf_syntax_trees.specs.declared.expressions.Expr.TheFolds.{fold-Expr}
use Rattle.golf_data.specs.declared.code.Instr.{Instr}
use Rattle.golf_check_types.specs.declared.facts.Fact.{Fact}
use Rattle.golf_code_layout.specs.Piece.{Piece, all, op}
use Rattle.golf_code_of.specs.Table.{text_number}
use Rattle.golf_code_of.specs.declared.tables.Tables.{Tables}
use Rattle.golf_code_of.specs.Expressions.{Made, only, name, put, new_struct, new_sync, slice_literal, made, made_sized}
use Rattle.golf_code_of.specs.Expressions.{selector, index, unary_operator, binary_operator}
use Rattle.golf_code_of.specs.Calls.{ArgumentCode, call}
use Rattle.golf_code_facts.specs.Facts.{operand_in, number_in, field_in, type_in, base_in, next, next_is, past_one}
use Rattle.golf_code_facts.specs.Facts.{skip}

-- the code of an expression on a line, by the first facts of a list
abbrev pub Take : Type 0
Take = ℕ → List Fact → Made

-- expressions one after another, as arguments
abbrev pub arguments : ℕ → List Take → List Fact → List ArgumentCode
arguments l [] fs = []
arguments l (x ∷ xs) fs = record { meaning = next_is fs; piece = (x l fs).piece } ∷ arguments l xs (skip fs)

-- the pieces that push the arguments
abbrev pub pieces : List ArgumentCode → List Piece
pieces xs = map (λ x. x.piece) xs

-- puts each value into its field; the place of the field comes before the facts of the value
abbrev pub puts : ℕ → List Take → List Fact → Piece
puts l [] fs = Piece.Empty
puts l (x ∷ xs) fs = Piece.Then (put l (field_in (next fs)) (x l (past_one fs)).piece) (puts l xs (skip (past_one fs)))

-- the code of an expression with this fact, whose parts have the facts of the list
abbrev pub take_step : Tables → Expr-F Take Take → ℕ → Fact → List Fact → Made
take_step t (Integer digits) l f fs = only (op l (Instr.Int (number_in (next fs))))
take_step t (Text bytes) l f fs = only (op l (Instr.Text (text_number t.texts bytes)))
take_step t (Name n) l f fs = name l t (operand_in f)
take_step t (Parens e) l f fs = e l fs
take_step t (StructLiteral n xs) l f fs = only (all ((new_struct l (base_in f)).piece ∷ puts l xs fs ∷ []))
take_step t (SyncLiteral n) l f fs = new_sync l (base_in f)
take_step t (SliceLiteral of_type xs) l f fs = slice_literal l (type_in f) (pieces (arguments l xs fs))
take_step t EmptyLiteral l f fs = only (op l Instr.Unit)
take_step t (Make of_type) l f fs = made l (type_in f)
take_step t (MakeSized of_type e) l f fs = made_sized l (type_in f) (e l fs).piece
take_step t (New n) l f fs = new_struct l (base_in f)
take_step t (NewSync n) l f fs = new_sync l (base_in f)
take_step t (Selector e n) l f fs = selector l (operand_in f) (e l fs).piece
take_step t (Index a i) l f fs = index l (a l fs).piece (i l (skip fs)).piece
take_step t (Call g xs) l f fs = call l (next_is fs) (g l fs).piece (arguments l xs (skip fs))
take_step t (Unary o e) l f fs = unary_operator l o (e l fs).piece
take_step t (Binary o a b) l f fs = binary_operator l o (a l fs).piece (b l (skip fs)).piece

-- without facts there is no code
abbrev pub with_fact : (ℕ → Fact → List Fact → Made) → Take
with_fact k l [] = only Piece.Empty
with_fact k l (f ∷ fs) = k l f fs

abbrev pub taking_step : Tables → Expr-F Take Take → Take
taking_step t y = with_fact (take_step t y)

abbrev pub element_taking_step : Element-F Take Take → Take
element_taking_step x = x.value

unfoldable pub taking : Tables → Expr → Take
taking t = fold-Expr Take Take (taking_step t) element_taking_step

-- the code of an expression on a line by the first of these facts; `skip` leaves the facts after them
abbrev pub taken_at : Tables → ℕ → List Fact → Expr → Made
taken_at t l fs e = taking t e l fs

-- the piece that pushes the value of an expression
abbrev pub pushed_at : Tables → ℕ → List Fact → Expr → Piece
pushed_at t l fs e = (taken_at t l fs e).piece
