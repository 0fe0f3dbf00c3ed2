-- The code of statements by their facts, beside `golf_code_of`.
use Rattle.std.specs.Prelude.{ℕ, pos, List, [], ◌∷◌, ◌++◌, length, map, Option, Some, None}
use Rattle.golf_syntax_trees.specs.declared.expressions.Expr.{Expr}
use Rattle.golf_syntax_trees.specs.declared.statements.Simple.{Simple}
use Rattle.golf_syntax_trees.specs.declared.statements.SimpleKind.{SimpleKind}
use Rattle.golf_syntax_trees.specs.declared.statements.SimpleKind.TheVariants as simple
use Rattle.golf_syntax_trees.specs.declared.statements.VarContent.{VarContent}
use Rattle.golf_syntax_trees.specs.declared.statements.VarContent.TheVariants as content
use Rattle.golf_data.specs.declared.code.Instr.{Instr}
use Rattle.golf_check_types.specs.declared.facts.Fact.{Fact}
use Rattle.golf_check_types.specs.declared.operands.Operand.{Operand}
use Rattle.golf_check_types.specs.Types.{type_of}
use Rattle.golf_code_layout.specs.Piece.{Piece, all, op}
use Rattle.golf_code_of.specs.declared.surroundings.Around.{Around}
use Rattle.golf_code_of.specs.declared.tables.Tables.{Tables}
use Rattle.golf_code_of.specs.Values.{push, zero_value}
use Rattle.golf_code_of.specs.Expressions.{name}
use Rattle.golf_code_of.specs.Calls.{pushes, makings, beginning}
use Rattle.golf_code_of.specs.Statements.{Laid, no_code, laid, wrapped, follow, past, within, drops, update_instr}
use Rattle.golf_code_of.specs.Statements.{updates, assigns}
use Rattle.golf_code_facts.specs.Facts.{next_is, past_one, skip, skip_all}
use Rattle.golf_code_facts.specs.Expressions.{taking, taken_at, pushed_at, arguments}

-- the code of a statement with the functions to be made for it, and the facts that are left
pub record LaidBy : Type 0 where
  pub laid : Laid
  pub left : List Fact

abbrev pub LayBy : Type 0
LayBy = Around → List Fact → LaidBy

abbrev pub by : Laid → List Fact → LaidBy
by x fs = record { laid = x; left = fs }

-- code that needs no function to be made, and the facts that are left
pub record PieceBy : Type 0 where
  pub piece : Piece
  pub left : List Fact

abbrev pub piece_by : Piece → List Fact → PieceBy
piece_by p fs = record { piece = p; left = fs }

abbrev pub by_piece : (List Fact → PieceBy) → LayBy
by_piece x a fs = let p = x fs in by (laid p.piece) p.left

-- Statements put together.

abbrev pub then : LayBy → LayBy → LayBy
then x y a fs = let f = x a fs in let g = y (past a f.laid) f.left in by (follow f.laid g.laid) g.left

-- code that needs no function to be made, and then a statement
abbrev pub after : (List Fact → PieceBy) → LayBy → LayBy
after x y a fs = let f = x fs in let g = y a f.left in by (wrapped (λ p. Piece.Then f.piece p) g.laid) g.left

abbrev pub in_order : List LayBy → LayBy
in_order [] a fs = by no_code fs
in_order (x ∷ xs) a fs = then x (in_order xs) a fs

-- Simple statements.

-- stores the top value under a name with this meaning, or drops it if the name is `_`
abbrev pub stores : ℕ → Tables → Operand → Piece
stores l t m = (name l t m).store

-- stores the top value under the name of the next fact
abbrev pub stores_next : ℕ → Tables → List Fact → PieceBy
stores_next l t fs = piece_by (stores l t (next_is fs)) (past_one fs)

abbrev pub past_two : List Fact → List Fact
past_two fs = past_one (past_one fs)

-- stores two values under the next two names; the value of the second name is on top
abbrev pub stores_two : ℕ → Tables → List Fact → Piece
stores_two l t fs = all (stores l t (next_is (past_one fs)) ∷ stores l t (next_is fs) ∷ [])

abbrev pub steps_by : Tables → ℕ → Expr → Instr → List Fact → PieceBy
steps_by t l p i fs = piece_by (updates l (taken_at t l fs p) (op l (Instr.Int (pos 1))) i) (skip fs)

abbrev pub defines_by : Tables → ℕ → Expr → List Fact → PieceBy
defines_by t l e fs = let y = stores_next l t (skip fs) in piece_by (all (pushed_at t l fs e ∷ y.piece ∷ [])) y.left

abbrev pub simple_by : Tables → ℕ → SimpleKind → List Fact → PieceBy
simple_by t l (simple.Expression e) fs = piece_by (all (pushed_at t l fs e ∷ drops l (next_is fs) ∷ [])) (skip fs)
simple_by t l (simple.Send c e) fs = piece_by
    (all (pushed_at t l fs c ∷ pushed_at t l (skip fs) e ∷ op l Instr.Send ∷ [])) (skip (skip fs))
simple_by t l (simple.Increment p) fs = steps_by t l p Instr.Add fs
simple_by t l (simple.Decrement p) fs = steps_by t l p Instr.Sub fs
simple_by t l (simple.Assign p e) fs = piece_by (assigns (taken_at t l fs p) (pushed_at t l (skip fs) e))
    (skip (skip fs))
simple_by t l (simple.Update p o e) fs =
    piece_by (updates l (taken_at t l fs p) (pushed_at t l (skip fs) e) (update_instr o)) (skip (skip fs))
simple_by t l (simple.Define n e) fs = defines_by t l e fs
simple_by t l (simple.DefineReceived n m e) fs =
    piece_by (all (pushed_at t l fs e ∷ op l Instr.ReceiveOk ∷ stores_two l t (skip fs) ∷ [])) (past_two (skip fs))
simple_by t l (simple.AssignReceived n m e) fs =
    piece_by (all (pushed_at t l fs e ∷ op l Instr.ReceiveOk ∷ stores l t (next_is (past_one (skip fs)))
    ∷ stores l t (next_is (skip fs)) ∷ [])) (past_two (skip fs))

abbrev pub optional_by : Tables → Option Simple → List Fact → PieceBy
optional_by t None fs = piece_by Piece.Empty fs
optional_by t (Some x) fs = simple_by t x.line x.kind fs

-- Variables: without a value, the zero value of the type.

abbrev pub var_by : Tables → ℕ → VarContent → List Fact → PieceBy
var_by t l (content.Zero w) fs = piece_by
    (all (op l (push (zero_value (type_of (next_is fs)))) ∷ stores l t (next_is fs) ∷ [])) (past_one fs)
var_by t l (content.Typed w e) fs = defines_by t l e fs
var_by t l (content.Untyped e) fs = defines_by t l e fs

-- Go and defer statements: receiver and arguments are evaluated now.

abbrev pub begin_lay : Tables → ℕ → (ℕ → ℕ → Instr) → Expr → List Expr → LayBy
begin_lay t l begin f xs a fs =
    let ys = arguments l (map (taking t) xs) (skip fs) in
    by (record {
      piece = all (pushed_at t l fs f ∷ pushes ys ∷ beginning l begin a.functions (next_is fs) ys ∷ []);
      made = makings l (next_is fs) ys;
    }) (skip_all (length xs) (skip fs))

-- Return, break, continue.

abbrev pub return_by : Tables → ℕ → Option Expr → List Fact → PieceBy
return_by t l None fs = piece_by (op l Instr.Return) fs
return_by t l (Some e) fs = piece_by (all (pushed_at t l fs e ∷ op l Instr.ReturnValue ∷ [])) (skip fs)

abbrev pub break_lay : ℕ → LayBy
break_lay l a fs = by (laid (Piece.Exit l a.breaks)) fs

abbrev pub continue_lay : ℕ → LayBy
continue_lay l a fs = by (laid (Piece.Exit l a.continues)) fs

-- If.

-- a condition and the code after it; if the condition is false, it goes on at target 0
abbrev pub after_test : Tables → ℕ → Expr → LayBy → LayBy
after_test t l test x a fs =
    let g = x a (skip fs) in
    by (wrapped (λ p. all (pushed_at t l fs test ∷ Piece.Unless l 0 ∷ p ∷ [])) g.laid) g.left

abbrev pub then_lay : Tables → ℕ → Option Simple → Expr → List LayBy → LayBy
then_lay t l first test body = after (optional_by t first) (after_test t l test (in_order body))

abbrev pub ends_here : LayBy → LayBy
ends_here x a fs = let g = x (within 1 a) fs in by (wrapped Piece.Block g.laid) g.left

-- the code of the two branches of an `if`
abbrev pub branches : ℕ → Laid → Laid → Laid
branches l x y = record {
  piece = Piece.Block (all (Piece.Block (all (x.piece ∷ Piece.Exit l 1 ∷ [])) ∷ y.piece ∷ []));
  made = x.made ++ y.made;
}

abbrev pub or_else : ℕ → LayBy → LayBy → LayBy
or_else l x y a fs =
    let f = x (within 2 a) fs in
    let g = y (within 1 (past a f.laid)) f.left in
    by (branches l f.laid g.laid) g.left

abbrev pub if_lay : Tables → ℕ → Option Simple → Expr → List LayBy → LayBy
if_lay t l first test body = ends_here (then_lay t l first test body)

abbrev pub else_lay : Tables → ℕ → Option Simple → Expr → List LayBy → LayBy → LayBy
else_lay t l first test body otherwise = or_else l (then_lay t l first test body) otherwise
