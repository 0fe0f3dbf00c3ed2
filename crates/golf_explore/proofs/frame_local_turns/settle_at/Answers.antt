use Rattle.golf_explore.proofs.Settled.{settled-none, settled-more}
use Rattle.golf_explore.proofs.frame_local_turns.settle_at.Goals as goal

pub loop-init : goal.loop-init
loop-init c = settled-none c.args.code.now c.args.state.now c.args.numbers.now c.requires.goes c.requires.leads

pub loop-preserved : goal.loop-preserved
loop-preserved c = settled-more c.args.code.now c.args.state.now c.loop.state c.take.new.state c.args.number
    c.args.numbers.now c.loop.numbers c.push.new.self c.loop.invariant
    (c.is_turn_local.ensures c.if-not-is_turn_local.false) c.in_ok-take.ensures c.in_ok-push.ensures.ok
