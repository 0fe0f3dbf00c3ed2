use Rattle.std.proofs.Common.{arith, ◌∙◌}
use Rattle.golf_theory.specs.Flags.{kept}
use Rattle.golf_blocks.proofs.ClosingUp.{swapped_more, swapped-length, skipped_more}
use Rattle.golf_blocks.proofs.flagged_items.close_up.Goals as goal
use Rattle.golf_blocks.proofs.flagged_items.close_up.Goals.{then-keep-at, else-keep-at}

pub loop-at-preserved : goal.loop-at-preserved
loop-at-preserved g c = elim c.if-keep-at.branch [
  | then-keep-at w ↦
      let i = c.loop-at.invariant in
      let xs = c.loop-at.items.items in
      rw (w.items-is, w.count-is)
      (record {
        within = omega (arith, i.within);
        whole = swapped-length xs w.swap.new.self.items c.loop-at.count c.loop-at.at
            (omega (arith, c.loop-at-test.true, i.whole)) w.swap.ensures.by_index ∙ i.whole;
        kept = swapped_more c.args.keep.now xs w.swap.new.self.items
            (kept c.args.keep.now c.args.items.now.items) c.loop-at.count c.loop-at.at
            (record { within = c.loop-at-test.true; whole = i.whole; below = i.within; flag = w.if-keep-at.true })
            w.swap.ensures.by_index i.kept;
      })
  | else-keep-at w ↦
      let i = c.loop-at.invariant in
      rw (w.items-is, w.count-is)
      (record {
        within = omega (arith, i.within);
        whole = i.whole;
        kept = skipped_more c.args.keep.now c.loop-at.items.items
            (kept c.args.keep.now c.args.items.now.items) c.loop-at.count c.loop-at.at c.loop-at-test.true i.whole
            w.if-keep-at.false i.kept;
      })
]
