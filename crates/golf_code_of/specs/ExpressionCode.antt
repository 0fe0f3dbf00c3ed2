-- The code of an expression on a line, with one equation for each construct.
use Rattle.std.specs.Prelude.{ℕ, pos, List, map}
use Rattle.golf_syntax_trees.specs.declared.expressions.Expr.{Expr}
use Rattle.golf_syntax_trees.specs.declared.expressions.Expr.TheOpen.{Expr-F, Element-F, Integer, Text, Name, Parens}
use Rattle.golf_syntax_trees.specs.declared.expressions.Expr.TheOpen.{StructLiteral, SyncLiteral, SliceLiteral}
use Rattle.golf_syntax_trees.specs.declared.expressions.Expr.TheOpen.{EmptyLiteral, Make, MakeSized, New, NewSync}
use Rattle.golf_syntax_trees.specs.declared.expressions.Expr.TheOpen.{Selector, Index, Call, Unary, Binary}
use Rattle.golf_syntax_trees.specs.declared.expressions.Expr.TheFolds.{fold-Expr, map-Expr}
use Rattle.golf_data.specs.declared.code.Instr.{Instr}
use Rattle.golf_check_types.specs.declared.types.Layer.TheVariants as layer
use Rattle.golf_check_types.specs.declared.scopes.Scope.{Scope}
use Rattle.golf_check_types.specs.Types.{with_layer}
use Rattle.golf_check_types.specs.Scopes.{meaning}
use Rattle.golf_check_types.specs.Written.{write_at, pointer_to, made_base}
use Rattle.golf_check_types.specs.Expressions.{value_from, named, selected_from}
use Rattle.golf_check_types.specs.Judgments.{Judge, Put, judge_step}
use Rattle.golf_code_layout.specs.Piece.{Piece, op}
use Rattle.golf_code_of.specs.Table.{text_number}
use Rattle.golf_code_of.specs.declared.tables.Tables.{Tables}
use Rattle.golf_code_of.specs.Expressions.{Made, only, name, struct_literal, new_struct, new_sync, slice_literal, made}
use Rattle.golf_code_of.specs.Expressions.{made_sized, selector, index, unary_operator, binary_operator}
use Rattle.golf_code_of.specs.Calls.{ArgumentCode, call}

-- an expression on a line, in a scope: its judgment and its code
pub record Coded : Type 0 where
  pub judge : Judge
  pub code : ℕ → Scope → Made

-- the name of a field, and the value that is put into it
pub record CodedPut : Type 0 where
  pub name : List ℕ
  pub value : Coded

abbrev pub put_judge : CodedPut → Put
put_judge x = record { name = x.name; judge = x.value.judge }

abbrev pub argument : ℕ → Scope → Coded → ArgumentCode
argument l s x = record { meaning = (x.judge l s).meaning; piece = (x.code l s).piece }

abbrev pub code_step : Tables → Expr-F Coded CodedPut → ℕ → Scope → Made
code_step t (Integer digits) l s = only (op l (Instr.Int (pos (value_from 0 digits))))
code_step t (Text bytes) l s = only (op l (Instr.Text (text_number t.texts bytes)))
code_step t (Name n) l s = name l t (named l s n).meaning
code_step t (Parens e) l s = e.code l s
code_step t (StructLiteral n xs) l s = struct_literal l s.file (pointer_to (meaning s n)) (map (λ x. x.name) xs)
    (map (λ x. (x.value.code l s).piece) xs)
code_step t (SyncLiteral n) l s = new_sync l (made_base n)
code_step t (SliceLiteral of_type xs) l s =
    slice_literal l (with_layer layer.Slice (write_at l s of_type).type) (map (λ x. (x.code l s).piece) xs)
code_step t EmptyLiteral l s = only (op l Instr.Unit)
code_step t (Make of_type) l s = made l (write_at l s of_type).type
code_step t (MakeSized of_type e) l s = made_sized l (write_at l s of_type).type (e.code l s).piece
code_step t (New n) l s = new_struct l (pointer_to (meaning s n))
code_step t (NewSync n) l s = new_sync l (made_base n)
code_step t (Selector e n) l s = selector l (selected_from l s.file n (e.judge l s).meaning).meaning (e.code l s).piece
code_step t (Index a i) l s = index l (a.code l s).piece (i.code l s).piece
code_step t (Call f xs) l s = call l (f.judge l s).meaning (f.code l s).piece (map (argument l s) xs)
code_step t (Unary o e) l s = unary_operator l o (e.code l s).piece
code_step t (Binary o a b) l s = binary_operator l o (a.code l s).piece (b.code l s).piece

-- an expression is judged beside its code, by the equations of the checker
abbrev pub coded_step : Tables → Expr-F Coded CodedPut → Coded
coded_step t y = record {
  judge = judge_step (map-Expr Coded CodedPut Judge Put (λ x. x.judge) put_judge y);
  code = code_step t y;
}

abbrev pub element_coded_step : Element-F Coded CodedPut → CodedPut
element_coded_step x = record { name = x.field; value = x.value }

unfoldable pub coded : Tables → Expr → Coded
coded t = fold-Expr Coded CodedPut (coded_step t) element_coded_step

-- the code of an expression on a line
abbrev pub code_at : Tables → ℕ → Scope → Expr → Made
code_at t l s e = (coded t e).code l s

-- the piece that pushes the value of an expression
abbrev pub piece_at : Tables → ℕ → Scope → Expr → Piece
piece_at t l s e = (code_at t l s e).piece

-- an expression as an argument
abbrev pub argument_at : Tables → ℕ → Scope → Expr → ArgumentCode
argument_at t l s e = argument l s (coded t e)
