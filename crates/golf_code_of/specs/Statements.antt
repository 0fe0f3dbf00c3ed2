-- The code of statements (Go specification, "Statements"), beside their walks, over the same scopes.
use Rattle.std.specs.Prelude.{ℕ, ◌+◌, pos, cond, List, [], ◌∷◌, ◌++◌, length, map, Option, Some, None}
use Rattle.golf_syntax_trees.specs.declared.expressions.Expr.{Expr}
use Rattle.golf_syntax_trees.specs.declared.statements.UpdateOperator.{UpdateOperator}
use Rattle.golf_syntax_trees.specs.declared.statements.UpdateOperator.TheVariants as update
use Rattle.golf_syntax_trees.specs.declared.statements.Simple.{Simple}
use Rattle.golf_syntax_trees.specs.declared.statements.SimpleKind.{SimpleKind}
use Rattle.golf_syntax_trees.specs.declared.statements.SimpleKind.TheVariants as simple
use Rattle.golf_syntax_trees.specs.declared.statements.VarContent.{VarContent}
use Rattle.golf_syntax_trees.specs.declared.statements.VarContent.TheVariants as content
use Rattle.golf_data.specs.declared.code.Instr.{Instr}
use Rattle.golf_check_types.specs.declared.types.GoType.{GoType}
use Rattle.golf_check_types.specs.declared.operands.Operand.{Operand}
use Rattle.golf_check_types.specs.declared.operands.Operand.TheVariants as operand
use Rattle.golf_check_types.specs.declared.scopes.Scope.{Scope}
use Rattle.golf_check_types.specs.Scopes.{begun}
use Rattle.golf_check_types.specs.Written.{write_at}
use Rattle.golf_check_types.specs.Judgments.{judge_at}
use Rattle.golf_check_types.specs.Statements as W
use Rattle.golf_check_types.specs.Statements.{Walk, behind, is_new, assigned_name, carried, one_new}
use Rattle.golf_code_layout.specs.Piece.{Piece, all, op}
use Rattle.golf_code_of.specs.declared.surroundings.Around.{Around}
use Rattle.golf_code_of.specs.declared.tables.Tables.{Tables}
use Rattle.golf_code_of.specs.Values.{push, zero_value}
use Rattle.golf_code_of.specs.Expressions.{Made, name}
use Rattle.golf_code_of.specs.declared.surroundings.Making.{Making}
use Rattle.golf_code_of.specs.Calls.{pushes, makings, beginning}
use Rattle.golf_code_of.specs.ExpressionCode.{code_at, piece_at, argument_at}

-- the code of a statement, and the functions that are made for it
pub record Laid : Type 0 where
  pub piece : Piece
  pub made : List Making

abbrev pub Lay : Type 0
Lay = Around → Scope → Laid

-- a statement: its walk, which says what is known after it, and its code
pub record StatementPart : Type 0 where
  pub walk : Walk
  pub lay : Lay

abbrev pub no_code : Laid
no_code = record { piece = Piece.Empty; made = [] }

-- code that needs no function to be made
abbrev pub laid : Piece → Laid
laid p = record { piece = p; made = [] }

abbrev pub wrapped : (Piece → Piece) → Laid → Laid
wrapped f x = record { piece = f x.piece; made = x.made }

abbrev pub follow : Laid → Laid → Laid
follow x y = record { piece = Piece.Then x.piece y.piece; made = x.made ++ y.made }

-- the surroundings after a statement for which functions were made
abbrev pub past : Around → Laid → Around
past a x = record a { functions = a.functions + length x.made }

-- the surroundings inside n more targets
abbrev pub within : ℕ → Around → Around
within n a = record a { breaks = a.breaks + n; continues = a.continues + n }

-- Statements put together.

abbrev pub nothing : StatementPart
nothing = record { walk = λ s. W.nothing; lay = λ a s. no_code }

-- one statement and then another; the names that the first declares are known in the second
abbrev pub then_lay : Lay → Walk → Lay → Lay
then_lay x w y a s = let first = x a s in follow first (y (past a first) (behind s (w s)))

abbrev pub then : StatementPart → StatementPart → StatementPart
then x y = record { walk = W.then x.walk y.walk; lay = then_lay x.lay x.walk y.lay }

abbrev pub lay_all : List StatementPart → Lay
lay_all [] a s = no_code
lay_all (x ∷ xs) a s = then_lay x.lay x.walk (lay_all xs) a s

abbrev pub in_order : List StatementPart → StatementPart
in_order xs = record { walk = W.in_order (map (λ x. x.walk) xs); lay = lay_all xs }

-- in a block of its own
abbrev pub in_block : StatementPart → StatementPart
in_block x = record { walk = W.in_block x.walk; lay = λ a s. x.lay a (begun s) }

abbrev pub block : List StatementPart → StatementPart
block body = in_block (in_order body)

-- Assigned names: a new name has the next slot, a known name keeps its place, and a value stored in `_` is dropped.

abbrev pub stores_to : ℕ → Tables → Option Operand → Piece
stores_to l t None = Piece.Empty
stores_to l t (Some p) = (name l t p).store

abbrev pub stores_name : ℕ → Tables → Scope → List ℕ → Piece
stores_name l t s n = stores_to l t (assigned_name s n)

-- stores into n, in the next slot of the second scope if the name is new in the first
abbrev pub stores_new : ℕ → Tables → Scope → Scope → List ℕ → Piece
stores_new l t s at n = cond (is_new s n) (op l (Instr.Store at.next)) (stores_name l t s n)

-- stores the received value and `ok`; `ok` is on top, so it is stored first
abbrev pub stores_pair : ℕ → Tables → Scope → List ℕ → List ℕ → Option GoType → Piece
stores_pair l t s n m of_type = all (stores_new l t s (behind s (one_new (is_new s n) n of_type s)) m
    ∷ stores_new l t s s n ∷ [])

-- Simple statements.

-- drops the value that a call or receive leaves
abbrev pub drops : ℕ → Operand → Piece
drops l (operand.Nothing late) = Piece.Empty
drops l m = op l Instr.Drop

abbrev pub update_instr : UpdateOperator → Instr
update_instr update.Add = Instr.Add
update_instr update.Subtract = Instr.Sub
update_instr update.Multiply = Instr.Mul
update_instr update.Divide = Instr.Div
update_instr update.Remainder = Instr.Rem

-- `p op= e`: the place is evaluated once ("Assignment statements")
abbrev pub updates : ℕ → Made → Piece → Instr → Piece
updates l p e i = all (p.parts ∷ p.twice ∷ p.read ∷ e ∷ op l i ∷ p.store ∷ [])

abbrev pub assigns : Made → Piece → Piece
assigns p e = all (p.parts ∷ e ∷ p.store ∷ [])

abbrev pub simple_piece : Tables → ℕ → SimpleKind → Scope → Piece
simple_piece t l (simple.Expression e) s = all (piece_at t l s e ∷ drops l (judge_at l s e).meaning ∷ [])
simple_piece t l (simple.Send c e) s = all (piece_at t l s c ∷ piece_at t l s e ∷ op l Instr.Send ∷ [])
simple_piece t l (simple.Increment p) s = updates l (code_at t l s p) (op l (Instr.Int (pos 1))) Instr.Add
simple_piece t l (simple.Decrement p) s = updates l (code_at t l s p) (op l (Instr.Int (pos 1))) Instr.Sub
simple_piece t l (simple.Assign p e) s = assigns (code_at t l s p) (piece_at t l s e)
simple_piece t l (simple.Update p o e) s = updates l (code_at t l s p) (piece_at t l s e) (update_instr o)
simple_piece t l (simple.Define n e) s = all (piece_at t l s e ∷ op l (Instr.Store s.next) ∷ [])
simple_piece t l (simple.DefineReceived n m e) s =
    all (piece_at t l s e ∷ op l Instr.ReceiveOk ∷ stores_pair l t s n m (carried l e s) ∷ [])
simple_piece t l (simple.AssignReceived n m e) s =
    all (piece_at t l s e ∷ op l Instr.ReceiveOk ∷ stores_name l t s m ∷ stores_name l t s n ∷ [])

abbrev pub simple_part : Tables → Simple → StatementPart
simple_part t x = record { walk = W.simple_walk x; lay = λ a s. laid (simple_piece t x.line x.kind s) }

abbrev pub optional : Tables → Option Simple → StatementPart
optional t None = nothing
optional t (Some x) = simple_part t x

-- Variables: without a value, the zero value of the type.

abbrev pub first_value : Tables → ℕ → VarContent → Scope → Piece
first_value t l (content.Zero of_type) s = op l (push (zero_value (write_at l s of_type).type))
first_value t l (content.Typed of_type e) s = piece_at t l s e
first_value t l (content.Untyped e) s = piece_at t l s e

abbrev pub var_part : Tables → ℕ → List ℕ → VarContent → StatementPart
var_part t l n x = record {
  walk = W.var_content l n x;
  lay = λ a s. laid (all (first_value t l x s ∷ op l (Instr.Store s.next) ∷ []));
}

-- Go and defer statements: receiver and arguments are evaluated now.
abbrev pub begin_lay : Tables → ℕ → (ℕ → ℕ → Instr) → Expr → List Expr → Lay
begin_lay t l begin f xs a s = record {
  piece = all (piece_at t l s f ∷ pushes (map (argument_at t l s) xs)
      ∷ beginning l begin a.functions (judge_at l s f).meaning (map (argument_at t l s) xs) ∷ []);
  made = makings l (judge_at l s f).meaning (map (argument_at t l s) xs);
}

abbrev pub begin_part : Tables → ℕ → (ℕ → ℕ → Instr) → Expr → List Expr → StatementPart
begin_part t l begin f xs = record { walk = W.begin_call l f xs; lay = begin_lay t l begin f xs }

-- Return, break, continue.

abbrev pub returns : Tables → ℕ → Option Expr → Scope → Piece
returns t l None s = op l Instr.Return
returns t l (Some e) s = all (piece_at t l s e ∷ op l Instr.ReturnValue ∷ [])

abbrev pub return_part : Tables → ℕ → Option Expr → StatementPart
return_part t l e = record { walk = W.returned l e; lay = λ a s. laid (returns t l e s) }

abbrev pub break_part : ℕ → StatementPart
break_part l = record { walk = W.break_walk l; lay = λ a s. laid (Piece.Exit l a.breaks) }

abbrev pub continue_part : ℕ → StatementPart
continue_part l = record { walk = W.continue_walk l; lay = λ a s. laid (Piece.Exit l a.continues) }

-- If.

-- a condition and the code after it; if the condition is false, it goes on at target 0
abbrev pub behind_test : Tables → ℕ → Expr → StatementPart → StatementPart
behind_test t l test x = record {
  walk = W.behind_test l test x.walk;
  lay = λ a s. wrapped (λ p. all (piece_at t l s test ∷ Piece.Unless l 0 ∷ p ∷ [])) (x.lay a s);
}

abbrev pub then_part : Tables → ℕ → Option Simple → Expr → List StatementPart → StatementPart
then_part t l first test body = then (optional t first) (behind_test t l test (block body))

-- [first; test; body] end
abbrev pub ends_here : StatementPart → StatementPart
ends_here x = record { walk = x.walk; lay = λ a s. wrapped Piece.Block (x.lay (within 1 a) s) }

-- [[first; test; body; to the end] otherwise] end
abbrev pub or_else_lay : ℕ → StatementPart → StatementPart → Lay
or_else_lay l x y a s =
    let first = x.lay (within 2 a) s in
    let second = y.lay (within 1 (past a first)) (behind s (x.walk s)) in
    record {
      piece = Piece.Block (all (Piece.Block (all (first.piece ∷ Piece.Exit l 1 ∷ [])) ∷ second.piece ∷ []));
      made = first.made ++ second.made;
    }

abbrev pub or_else : ℕ → StatementPart → StatementPart → StatementPart
or_else l x y = record { walk = W.then x.walk y.walk; lay = or_else_lay l x y }

abbrev pub if_part : Tables → ℕ → Option Simple → Expr → List StatementPart → StatementPart
if_part t l first test body = in_block (ends_here (then_part t l first test body))

abbrev pub else_part : Tables → ℕ → Option Simple → Expr → List StatementPart → StatementPart → StatementPart
else_part t l first test body otherwise = in_block (or_else l (then_part t l first test body) otherwise)
