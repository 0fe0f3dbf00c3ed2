use Rattle.golf_explore.proofs.Settled.{settled-none, settled-trans}
use Rattle.golf_explore.proofs.frame_local_turns.settle.Goals as goal

pub loop-place-init : goal.loop-place-init
loop-place-init c = settled-none c.args.code.now c.args.state.now c.args.numbers.now c.requires.goes c.requires.leads

pub loop-place-preserved : goal.loop-place-preserved
loop-place-preserved c = settled-trans c.args.code.now c.args.state.now c.loop-place.state c.settle_at.new.state
    c.args.numbers.now c.loop-place.numbers c.settle_at.new.numbers c.loop-place.invariant c.in_ok-settle_at.ensures
