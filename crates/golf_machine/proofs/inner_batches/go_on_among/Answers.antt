use Rattle.golf_machine.proofs.Among.{one-among}
use Rattle.golf_machine.proofs.TurnLaws.{turn-runs, whose}
use Rattle.golf_machine.proofs.inner_batches.go_on_among.Goals as goal

pub inner_turn-requires-clause-runs : goal.inner_turn-requires-clause-runs
inner_turn-requires-clause-runs g c = turn-runs c.loop-number.state c.in-Some.number _ c.runnable_at-g.ensures.rises
    (whose c.loop-number.state c.in-Some.number _ c.shared_out-place.result.0 c.runnable_count-count.result
    c.runnable_at-g.ensures.at c.shared_out-place.ensures.place c.loop-number.invariant.counts)

pub loop-number-preserved : goal.loop-number-preserved
loop-number-preserved g c = one-among c.in-Over.is c.loop-number.invariant c.in-Some.ensures.0 c.in-Some.ensures.1
    (whose c.loop-number.state c.in-Some.number _ c.shared_out-place.result.0 c.runnable_count-count.result
    c.runnable_at-g.ensures.at c.shared_out-place.ensures.place c.loop-number.invariant.counts)
    c.in_ok-inner_turn.ensures.ok
