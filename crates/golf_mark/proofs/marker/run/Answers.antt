use Rattle.golf_mark.proofs.Running.{TakesTurns-trans}
use Rattle.golf_mark.proofs.marker.run.Goals as goal

pub returns-then-not-step : goal.returns-then-not-step
returns-then-not-step g c = TakesTurns-trans c.args.shared.now.marks.now c.args.shared.now.pool.now c.args.marker.now
    c.loop-turn.marker c.step.new.marker c.loop-turn.invariant c.step.ensures

pub loop-turn-preserved : goal.loop-turn-preserved
loop-turn-preserved g c = TakesTurns-trans c.args.shared.now.marks.now c.args.shared.now.pool.now c.args.marker.now
    c.loop-turn.marker c.step.new.marker c.loop-turn.invariant c.step.ensures
