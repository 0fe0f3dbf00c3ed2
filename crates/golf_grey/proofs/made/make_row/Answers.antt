use Rattle.std.proofs.Common.{arith}
use Rattle.golf_grey.proofs.Stages.{stage_fifo}
use Rattle.golf_grey.proofs.made.make_row.Goals as goal

pub returns-clause-row : goal.returns-clause-row
returns-clause-row c = let s = c.loop-j.invariant.0 in (
  record {
    len = omega (
      arith,
      c.loop-j.invariant.3,
      s.len,
      c.loop-j.invariant.5,
      c.len-count.ensures,
      c.args.owners.now.ok.0,
      c.loop-j.auto.j-end,
    );
    each = c.loop-j.invariant.2;
    fifo = stage_fifo c.args.thieves.now.items _ _ c.loop-j.owners.items s;
  },
  c.loop-j.invariant.4,
)
