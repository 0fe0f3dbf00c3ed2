-- A `range`, after the code of its expression.
use Rattle.std.specs.Prelude.{ℕ, List}
use Rattle.golf_syntax_trees.specs.declared.statements.RangeNames.{RangeNames}
use Rattle.golf_code_layout.specs.Piece.{Piece}
use Rattle.golf_code_of.specs.declared.tables.Tables.{Tables}
use Rattle.golf_code_of.specs.Statements.{wrapped}
use Rattle.golf_code_of.specs.Loops.{over_slice, over_channel}
use Rattle.golf_code_facts.specs.Facts.{hidden_in, next, past_one}
use Rattle.golf_code_facts.specs.Statements.{LayBy, by, in_order}
use Rattle.golf_code_facts.specs.Loops.{in_loop, past_names, slice_names, channel_name}

-- a range over a slice, which was pushed
abbrev pub ranged_slice : Tables → ℕ → RangeNames → List LayBy → LayBy
ranged_slice t l names body a fs =
    let g = in_loop 2 0 (in_order body) a (past_names names (past_one fs)) in
    by (wrapped (λ p. over_slice l (hidden_in (next fs)) Piece.Empty
    (slice_names t l (hidden_in (next fs)) names (past_one fs)) p) g.laid) g.left

-- a range over a channel, which was pushed
abbrev pub ranged_channel : Tables → ℕ → RangeNames → List LayBy → LayBy
ranged_channel t l names body a fs =
    let g = in_loop 2 0 (in_order body) a (past_names names (past_one fs)) in
    by (wrapped (λ p. over_channel l (hidden_in (next fs)) Piece.Empty (channel_name t l names (past_one fs)) p) g.laid)
    g.left
