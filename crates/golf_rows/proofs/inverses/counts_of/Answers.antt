use Rattle.std.proofs.Common.{◌≡◌, [], get_or, ap, ◌∙◌, arith}
use Rattle.std.proofs.lemmas.Option.{get_or_from_slice_get}
use Rattle.golf_rows.specs.Rooms.{occurrences}
use Rattle.golf_rows.proofs.Counting.{rows-more}
use Rattle.golf_rows.proofs.inverses.counts_of.Goals as goal

pub loop-at-preserved : goal.loop-at-preserved
loop-at-preserved c =
    let rows = c.args.rows.now in
    let i = c.loop-at.at in
    let is : get_or rows i [] ≡ c.row.result.now = get_or_from_slice_get rows i c.row.result.now [] c.row.ensures in
    record {
      size = c.count_row.ensures.length ∙ c.loop-at.invariant.size;
      counted = λ n. omega (
        arith,
        c.in_ok-count_row.ensures.counts n,
        c.loop-at.invariant.counted n,
        rows-more n i rows (omega (arith, c.len-at-end.ensures)),
        ap (occurrences n) is,
      );
    }
