-- The code of loops (Go specification, "For statements", "For statements with range clause", "Break statements",
-- "Continue statements").
use Rattle.std.specs.Prelude.{ℕ, ◌+◌, pos, true, cond, List, [], ◌∷◌, Option, Some, None}
use Rattle.golf_syntax_trees.specs.declared.expressions.Expr.{Expr}
use Rattle.golf_syntax_trees.specs.declared.statements.Simple.{Simple}
use Rattle.golf_syntax_trees.specs.declared.statements.Header.{Header}
use Rattle.golf_syntax_trees.specs.declared.statements.Header.TheVariants as header
use Rattle.golf_syntax_trees.specs.declared.statements.RangeNames.{RangeNames}
use Rattle.golf_syntax_trees.specs.declared.statements.RangeNames.TheVariants as range
use Rattle.golf_data.specs.declared.code.Instr.{Instr}
use Rattle.golf_check_types.specs.declared.operands.Given.{Given}
use Rattle.golf_check_types.specs.declared.scopes.Scope.{Scope}
use Rattle.golf_check_types.specs.Types.{is_slice, type_given}
use Rattle.golf_check_types.specs.Names.{is_blank}
use Rattle.golf_check_types.specs.Expressions.{given_by}
use Rattle.golf_check_types.specs.Judgments.{judge_at}
use Rattle.golf_check_types.specs.Statements as W
use Rattle.golf_check_types.specs.Statements.{behind, is_outer, hides, hidden, range_name, int_type}
use Rattle.golf_code_layout.specs.Piece.{Piece, all, op}
use Rattle.golf_code_of.specs.declared.tables.Tables.{Tables}
use Rattle.golf_code_of.specs.ExpressionCode.{piece_at}
use Rattle.golf_code_of.specs.Statements.{Lay, StatementPart, wrapped, past, then, in_block, block, optional}

-- the inside of a loop; `break` and `continue` leave it by these targets
abbrev pub in_loop : ℕ → ℕ → StatementPart → StatementPart
in_loop breaks continues x = record {
  walk = W.looping x.walk;
  lay = λ a s. x.lay (record { breaks = breaks; continues = continues; functions = a.functions })
      (record s { breaks = true; loops = true });
}

-- A loop has two targets around its body: seen from the inside, target 0 is the beginning and target 1 the end.
abbrev pub round : Piece → Piece
round p = Piece.Block (Piece.Again p)

-- `for { }`
abbrev pub forever : ℕ → StatementPart → StatementPart
forever l body = record {
  walk = body.walk;
  lay = λ a s. wrapped (λ p. round (all (p ∷ Piece.Exit l 0 ∷ []))) (body.lay a s);
}

-- `for test { }`
abbrev pub while : Tables → ℕ → Expr → StatementPart → StatementPart
while t l test body = record {
  walk = W.behind_test l test body.walk;
  lay = λ a s. wrapped (λ p. round (all (piece_at t l s test ∷ Piece.Unless l 1 ∷ p ∷ Piece.Exit l 0 ∷ [])))
      (body.lay a s);
}

-- `for first; test; post { }`: the body is in a block of its own, which ends before the post statement

abbrev pub optional_test : Tables → ℕ → Option Expr → Scope → Piece
optional_test t l None s = Piece.Empty
optional_test t l (Some e) s = all (piece_at t l s e ∷ Piece.Unless l 1 ∷ [])

abbrev pub steps_lay : Tables → ℕ → Option Expr → StatementPart → StatementPart → Lay
steps_lay t l test post body a s =
    let p = post.lay a s in
    wrapped (λ b. round (all (optional_test t l test s ∷ Piece.Block b ∷ p.piece ∷ Piece.Exit l 0 ∷ [])))
    (body.lay (past a p) (behind s (post.walk s)))

abbrev pub stepping : Tables → ℕ → Option Expr → StatementPart → StatementPart → StatementPart
stepping t l test post body = record {
  walk = W.behind_optional l test (W.then (W.counted post.walk) body.walk);
  lay = steps_lay t l test post body;
}

abbrev pub steps : Tables → ℕ → Option Simple → Option Expr → Option Simple → List StatementPart → StatementPart
steps t l first test post body = then (optional t first)
    (stepping t l test (optional t post) (in_loop 2 0 (block body)))

-- Range. The hidden slots of a range over a slice hold the slice, its length and the next index. A range over a channel
-- has one hidden slot, which holds the channel.

-- the names of a range over a slice: the index, and the element; `_` has neither slot nor code
abbrev pub slice_names : ℕ → ℕ → RangeNames → Scope → Piece
slice_names l h range.Neither s = Piece.Empty
slice_names l h (range.One n) s = cond (is_blank n) Piece.Empty
    (all (op l (Instr.Load (h + 2)) ∷ op l (Instr.Store s.next) ∷ []))
slice_names l h (range.Two n m) s = all (
    cond (is_blank n) Piece.Empty (all (op l (Instr.Load (h + 2)) ∷ op l (Instr.Store s.next) ∷ []))
    ∷ cond (is_blank m) Piece.Empty (all (op l (Instr.Load h) ∷ op l (Instr.Load (h + 2)) ∷ op l Instr.Index
    ∷ op l (Instr.Store (behind s (range_name n int_type s)).next) ∷ []))
    ∷ [])

abbrev pub over_slice : ℕ → ℕ → Piece → Piece → Piece → Piece
over_slice l h e names body = all (
    e ∷ op l (Instr.Store h) ∷ op l (Instr.Load h) ∷ op l Instr.Len ∷ op l (Instr.Store (h + 1))
    ∷ op l (Instr.Int (pos 0)) ∷ op l (Instr.Store (h + 2))
    ∷ round (all (
    op l (Instr.Load (h + 2)) ∷ op l (Instr.Load (h + 1)) ∷ op l Instr.Less ∷ Piece.Unless l 1
    ∷ names ∷ Piece.Block body
    ∷ op l (Instr.Load (h + 2)) ∷ op l (Instr.Int (pos 1)) ∷ op l Instr.Add ∷ op l (Instr.Store (h + 2))
    ∷ Piece.Exit l 0 ∷ []))
    ∷ [])

-- the name of a range over a channel: the received value is stored, or dropped
abbrev pub channel_name : ℕ → RangeNames → Scope → Piece
channel_name l (range.One n) s = cond (is_blank n) (op l Instr.Drop) (op l (Instr.Store s.next))
channel_name l _ s = op l Instr.Drop

-- When the loop ends, the value that a closed channel gives is on top of the operands, and is dropped there. Seen from
-- the loop, target 1 is before that and target 2 after it.
abbrev pub over_channel : ℕ → ℕ → Piece → Piece → Piece → Piece
over_channel l h e name body = all (
    e ∷ op l (Instr.Store h)
    ∷ Piece.Block (all (
    round (all (op l (Instr.Load h) ∷ op l Instr.ReceiveOk ∷ Piece.Unless l 1 ∷ name ∷ body ∷ Piece.Exit l 0 ∷ []))
    ∷ op l Instr.Drop ∷ []))
    ∷ [])

-- the scope after the hidden slots
abbrev pub behind_hidden : Given → Scope → Scope
behind_hidden v s = behind s (hides (hidden (is_outer is_slice v) (type_given v)))

abbrev pub range_piece : ℕ → RangeNames → Given → Piece → Scope → Piece → Piece
range_piece l names v e s body = cond (is_outer is_slice v)
    (over_slice l s.next e (slice_names l s.next names (behind_hidden v s)) body)
    (over_channel l s.next e (channel_name l names (behind_hidden v s)) body)

abbrev pub range_lay : Tables → ℕ → RangeNames → Expr → StatementPart → Lay
range_lay t l names e body a s =
    let v = given_by (judge_at l s e) in
    wrapped (range_piece l names v (piece_at t l s e) s) (body.lay a (behind s (W.range_slots names v s)))

abbrev pub ranging : Tables → ℕ → RangeNames → Expr → List StatementPart → StatementPart
ranging t l names e body = record {
  walk = λ s. W.both (W.range_head l names e s)
      (W.then (W.range_slots names (given_by (judge_at l s e))) (in_loop 2 0 (block body)).walk s);
  lay =
      range_lay t l names e (in_loop 2 0 (block body));
}

abbrev pub header_part : Tables → ℕ → Header → List StatementPart → StatementPart
header_part t l header.Forever body = forever l (in_loop 1 0 (block body))
header_part t l (header.While e) body = while t l e (in_loop 1 0 (block body))
header_part t l (header.Steps first test post) body = steps t l first test post body
header_part t l (header.Range names e) body = ranging t l names e body

abbrev pub for_part : Tables → ℕ → Header → List StatementPart → StatementPart
for_part t l h body = in_block (header_part t l h body)
