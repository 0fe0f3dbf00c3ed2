-- The code of loops by their facts.
use Rattle.std.specs.Prelude.{ℕ, ◌+◌, cond, List, [], ◌∷◌, Option, Some, None}
use Rattle.golf_syntax_trees.specs.declared.expressions.Expr.{Expr}
use Rattle.golf_syntax_trees.specs.declared.statements.Simple.{Simple}
use Rattle.golf_syntax_trees.specs.declared.statements.Header.{Header}
use Rattle.golf_syntax_trees.specs.declared.statements.Header.TheVariants as header
use Rattle.golf_syntax_trees.specs.declared.statements.RangeNames.{RangeNames}
use Rattle.golf_syntax_trees.specs.declared.statements.RangeNames.TheVariants as range
use Rattle.golf_data.specs.declared.code.Instr.{Instr}
use Rattle.golf_check_types.specs.declared.facts.Fact.{Fact}
use Rattle.golf_check_types.specs.declared.operands.Given.{Given}
use Rattle.golf_check_types.specs.Types.{is_slice, given}
use Rattle.golf_check_types.specs.Names.{is_blank}
use Rattle.golf_check_types.specs.Statements.{is_outer}
use Rattle.golf_code_layout.specs.Piece.{Piece, all, op}
use Rattle.golf_code_of.specs.declared.tables.Tables.{Tables}
use Rattle.golf_code_of.specs.Statements.{wrapped}
use Rattle.golf_code_of.specs.Loops.{round, over_slice, over_channel}
use Rattle.golf_code_facts.specs.Facts.{hidden_in, next, next_is, past_one, skip}
use Rattle.golf_code_facts.specs.Expressions.{pushed_at}
use Rattle.golf_code_facts.specs.Statements.{LayBy, PieceBy, by, piece_by, stores, past_two, after, in_order}
use Rattle.golf_code_facts.specs.Statements.{optional_by}

-- the inside of a loop; `break` and `continue` leave it by these targets
abbrev pub in_loop : ℕ → ℕ → LayBy → LayBy
in_loop breaks continues x a fs = x (record { breaks = breaks; continues = continues; functions = a.functions }) fs

-- `for { }`
abbrev pub forever : ℕ → LayBy → LayBy
forever l x a fs = let g = x a fs in by (wrapped (λ p. round (all (p ∷ Piece.Exit l 0 ∷ []))) g.laid) g.left

-- `for test { }`
abbrev pub while : Tables → ℕ → Expr → LayBy → LayBy
while t l test x a fs =
    let g = x a (skip fs) in
    by (wrapped (λ p. round (all (pushed_at t l fs test ∷ Piece.Unless l 1 ∷ p ∷ Piece.Exit l 0 ∷ []))) g.laid) g.left

-- `for first; test; post { }`: the facts of the post statement come before those of the body, after their number

abbrev pub optional_test : Tables → ℕ → Option Expr → List Fact → PieceBy
optional_test t l None fs = piece_by Piece.Empty fs
optional_test t l (Some e) fs = piece_by (all (pushed_at t l fs e ∷ Piece.Unless l 1 ∷ [])) (skip fs)

abbrev pub stepping : Tables → ℕ → Option Expr → Option Simple → LayBy → LayBy
stepping t l test post body a fs =
    let c = optional_test t l test fs in
    let p = optional_by t post (past_one c.left) in
    let b = body a (skip c.left) in
    by (wrapped (λ q. round (all (c.piece ∷ Piece.Block q ∷ p.piece ∷ Piece.Exit l 0 ∷ []))) b.laid) b.left

abbrev pub steps : Tables → ℕ → Option Simple → Option Expr → Option Simple → List LayBy → LayBy
steps t l first test post body = after (optional_by t first) (stepping t l test post (in_loop 2 0 (in_order body)))

-- Range: after the facts of the expression comes the fact of the first hidden slot, and then one fact for each name.

abbrev pub past_names : RangeNames → List Fact → List Fact
past_names range.Neither fs = fs
past_names (range.One n) fs = past_one fs
past_names (range.Two n m) fs = past_two fs

-- the index, and the element; `_` has no code
abbrev pub index_name : Tables → ℕ → ℕ → List ℕ → List Fact → Piece
index_name t l h n fs = cond (is_blank n) Piece.Empty (all (op l (Instr.Load (h + 2)) ∷ stores l t (next_is fs) ∷ []))

abbrev pub element_name : Tables → ℕ → ℕ → List ℕ → List Fact → Piece
element_name t l h n fs = cond (is_blank n) Piece.Empty
    (all (op l (Instr.Load h) ∷ op l (Instr.Load (h + 2)) ∷ op l Instr.Index ∷ stores l t (next_is fs) ∷ []))

abbrev pub slice_names : Tables → ℕ → ℕ → RangeNames → List Fact → Piece
slice_names t l h range.Neither fs = Piece.Empty
slice_names t l h (range.One n) fs = index_name t l h n fs
slice_names t l h (range.Two n m) fs = all (index_name t l h n fs ∷ element_name t l h m (past_one fs) ∷ [])

-- the received value is stored, or dropped
abbrev pub channel_name : Tables → ℕ → RangeNames → List Fact → Piece
channel_name t l range.Neither fs = op l Instr.Drop
channel_name t l (range.One n) fs = stores l t (next_is fs)
channel_name t l (range.Two n m) fs = op l Instr.Drop

abbrev pub range_piece : Tables → ℕ → RangeNames → Given → ℕ → List Fact → Piece → Piece → Piece
range_piece t l names v h fs e body = cond (is_outer is_slice v) (over_slice l h e (slice_names t l h names fs) body)
    (over_channel l h e (channel_name t l names fs) body)

abbrev pub ranging : Tables → ℕ → RangeNames → Expr → List LayBy → LayBy
ranging t l names e body a fs =
    let ns = past_one (skip fs) in
    let g = in_loop 2 0 (in_order body) a (past_names names ns) in
    by (wrapped (range_piece t l names (given (next_is fs)) (hidden_in (next (skip fs))) ns (pushed_at t l fs e))
    g.laid) g.left

abbrev pub for_lay : Tables → ℕ → Header → List LayBy → LayBy
for_lay t l header.Forever body = forever l (in_loop 1 0 (in_order body))
for_lay t l (header.While e) body = while t l e (in_loop 1 0 (in_order body))
for_lay t l (header.Steps first test post) body = steps t l first test post body
for_lay t l (header.Range names e) body = ranging t l names e body
