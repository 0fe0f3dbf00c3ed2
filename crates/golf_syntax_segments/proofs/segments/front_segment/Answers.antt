use Rattle.std.proofs.Common.{◌<◌, ◌≤◌, length, arith}
use Rattle.std.proofs.lemmas.Grind.{common_steps}
use Rattle.golf_syntax_segments.specs.Cut.{front_length}
use Rattle.golf_syntax_segments.proofs.Cutting.{cut-is, length-within, length-some}
use Rattle.golf_syntax_segments.proofs.segments.front_segment.Goals as goal

pub split_at-requires : goal.split_at-requires
split_at-requires c =
    let within : front_length 0 c.args.tokens.now ≤ length c.args.tokens.now = length-within 0 c.args.tokens.now in
    omega (arith, within, c.front_length.ensures)

pub returns-clause-value : goal.returns-clause-value
returns-clause-value c =
    let some : 0 < length c.args.tokens.now = grind (arith, common_steps) in
    cut-is c.args.tokens.now c.split_at.result.0.now c.split_at.result.1.now c.front_length.result
    c.front_length.ensures some c.split_at.ensures.front c.split_at.ensures.back

pub returns-clause-shorter : goal.returns-clause-shorter
returns-clause-shorter c =
    let some : 0 < length c.args.tokens.now = grind (arith, common_steps) in
    let taken : 0 < front_length 0 c.args.tokens.now = length-some 0 c.args.tokens.now some in
    omega (arith, taken, c.front_length.ensures, c.split_at.ensures.back_len)
