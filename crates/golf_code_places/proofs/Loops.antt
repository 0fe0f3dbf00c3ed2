-- The code of loops has at most eight instructions and made parameters for each of its words.
-- For: `bodies_are_small`, src/lib.rt
-- By: arithmetic; no induction
use Rattle.std.proofs.Common.{ℕ, ◌+◌, ◌*◌, ◌≤◌, Bool, true, false, cond, List, [], ◌∷◌, length, Option, Some, None}
use Rattle.std.proofs.Common.{arith}
use Rattle.golf_syntax_trees.specs.declared.expressions.Expr.{Expr}
use Rattle.golf_syntax_trees.specs.declared.statements.RangeNames.{RangeNames}
use Rattle.golf_syntax_trees.specs.declared.statements.RangeNames.TheVariants as range
use Rattle.golf_syntax_trees.specs.Expressions.{print_expr}
use Rattle.golf_data.specs.declared.code.Instr.{Instr}
use Rattle.golf_check_types.specs.declared.operands.Given.{Given}
use Rattle.golf_check_types.specs.declared.scopes.Scope.{Scope}
use Rattle.golf_check_types.specs.Names.{is_blank}
use Rattle.golf_check_types.specs.Types.{is_slice}
use Rattle.golf_check_types.specs.Expressions.{given_by}
use Rattle.golf_check_types.specs.Judgments.{judge_at}
use Rattle.golf_check_types.specs.Statements as W
use Rattle.golf_check_types.specs.Statements.{behind, is_outer, range_name, int_type}
use Rattle.golf_code_layout.specs.Piece.{Piece, size, all, op}
use Rattle.golf_code_of.specs.declared.tables.Tables.{Tables}
use Rattle.golf_code_of.specs.ExpressionCode.{piece_at}
use Rattle.golf_code_of.specs.Statements.{StatementPart, past, block}
use Rattle.golf_code_of.specs.Loops.{in_loop, forever, while, optional_test, stepping, slice_names, over_slice}
use Rattle.golf_code_of.specs.Loops.{channel_name, over_channel, behind_hidden, range_piece, ranging}
use Rattle.golf_code_places.proofs.Exprs.{expr-small}
use Rattle.golf_code_places.proofs.Light.{Light}

pub light-loop : (breaks continues : ℕ) (x : StatementPart) (n : ℕ) → Light n x → Light n (in_loop breaks continues x)
light-loop breaks continues x n h a s = h (record { breaks = breaks; continues = continues; functions = a.functions })
    (record s { breaks = true; loops = true })

pub light-forever : (l : ℕ) (x : StatementPart) (n k : ℕ) → Light n x → n + 1 ≤ k → Light k (forever l x)
light-forever l x n k h more a s = let i = h a s in omega (arith, i, more)

pub light-while : (t : Tables) (l : ℕ) (e : Expr) (x : StatementPart) (n k : ℕ) → Light n x
    → length (print_expr e) + n + 1 ≤ k
    → Light k (while t l e x)
light-while t l e x n k h more a s = let i = (expr-small t e l s).piece in let j = h a s in omega (arith, i, j, more)

abbrev pub test_words : Option Expr → ℕ
test_words None = 0
test_words (Some e) = length (print_expr e)

test-light : (t : Tables) (l : ℕ) (o : Option Expr) (s : Scope) → size (optional_test t l o s) ≤ 8 * test_words o
test-light t l None s = omega arith
test-light t l (Some e) s = let h = (expr-small t e l s).piece in omega (arith, h)

-- the post statement makes no function
pub light-stepping : (t : Tables) (l : ℕ) (o : Option Expr) (post x : StatementPart) (n m k : ℕ) → Light n post
    → Light m x
    → test_words o + n + m + 1 ≤ k → Light k (stepping t l o post x)
light-stepping t l o post x n m k h i more a s =
    let p = post.lay a s in
    let e = test-light t l o s in
    let f = h a s in
    let g = i (past a p) (behind s (post.walk s)) in
    omega (arith, e, f, g, more)

-- Range.

few : (b : Bool) (p q : Piece) (k : ℕ) → size p ≤ k → size q ≤ k → size (cond b p q) ≤ k
few true p q k h i = h
few false p q k h i = i

slice-names : (l h : ℕ) (names : RangeNames) (s : Scope) → size (slice_names l h names s) ≤ 6
slice-names l h range.Neither s = omega arith
slice-names l h (range.One n) s = few (is_blank n) Piece.Empty _ 6 (omega arith) (omega arith)
slice-names l h (range.Two n m) s =
    let e = few (is_blank n) Piece.Empty (all (op l (Instr.Load (h + 2)) ∷ op l (Instr.Store s.next) ∷ [])) 2
    (omega arith) (omega arith) in
    let f = few (is_blank m) Piece.Empty (all
    (op l (Instr.Load h) ∷ op l (Instr.Load (h + 2)) ∷ op l Instr.Index
    ∷ op l (Instr.Store (behind s (range_name n int_type s)).next) ∷ [])) 4 (omega arith) (omega arith) in
    omega (arith, e, f)

channel-name : (l : ℕ) (names : RangeNames) (s : Scope) → size (channel_name l names s) ≤ 1
channel-name l range.Neither s = omega arith
channel-name l (range.One n) s = few (is_blank n) (op l Instr.Drop) (op l (Instr.Store s.next)) 1 (omega arith)
    (omega arith)
channel-name l (range.Two n m) s = omega arith

range-light : (l : ℕ) (names : RangeNames) (v : Given) (e : Piece) (s : Scope) (body : Piece)
    → size (range_piece l names v e s body) ≤ size e + (size body + 22)
range-light l names v e s body =
    let f = slice-names l s.next names (behind_hidden v s) in
    let g = channel-name l names (behind_hidden v s) in
    few (is_outer is_slice v) (over_slice l s.next e (slice_names l s.next names (behind_hidden v s)) body)
    (over_channel l s.next e (channel_name l names (behind_hidden v s)) body) _ (omega (arith, f))
    (omega (arith, g))

pub light-range : (t : Tables) (l : ℕ) (names : RangeNames) (e : Expr) (xs : List StatementPart) (n k : ℕ)
    → Light n (block xs)
    → length (print_expr e) + n + 3 ≤ k → Light k (ranging t l names e xs)
light-range t l names e xs n k h more a s =
    let v = given_by (judge_at l s e) in
    let body = (in_loop 2 0 (block xs)).lay a (behind s (W.range_slots names v s)) in
    let i = (expr-small t e l s).piece in
    let j = light-loop 2 0 (block xs) n h a (behind s (W.range_slots names v s)) in
    let r = range-light l names v (piece_at t l s e) s body.piece in
    omega (arith, i, j, r, more)
