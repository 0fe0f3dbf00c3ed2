use Rattle.golf_reclaim.proofs.Entries.{entries-more}
use Rattle.golf_reclaim.proofs.reported.entries.Goals as goal

pub loop-g-preserved : goal.loop-g-preserved
loop-g-preserved c = entries-more c.args.state.now c.args.goroutines.now c.loop-g.g-index _ c.loop-g.list
    c.add_entry.new.list c.loop-g-test.true c.loop-g.invariant c.in_ok-add_entry.ensures
