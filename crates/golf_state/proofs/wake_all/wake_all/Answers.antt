use Rattle.golf_state.proofs.WakeLaws.{closed-all, group-all, readers-all}
use Rattle.golf_state.proofs.wake_all.wake_all.Goals as goal

pub returns-in-Closing : goal.returns-in-Closing
returns-in-Closing c =
    let s = c.args.state.now in
    let t = c.wake_side.new.state in
    closed-all c.args.object.0 c.args.how c.in-Closing.field-0 s t c.wake_side-in-Closing.new.state c.in-Closing.is
    c.wake_side.ensures.woken c.wake_side.ensures.nobody c.wake_side-in-Closing.ensures.woken
    c.wake_side-in-Closing.ensures.nobody

pub returns-in-AtZero : goal.returns-in-AtZero
returns-in-AtZero c = group-all c.args.object.0 c.args.how c.args.state.now c.wake_side-in-AtZero.new.state
    c.in-AtZero.is c.wake_side-in-AtZero.ensures.woken c.wake_side-in-AtZero.ensures.nobody

pub returns-in-ToReaders : goal.returns-in-ToReaders
returns-in-ToReaders c = readers-all c.args.object.0 c.args.how c.in-ToReaders.field-0 c.args.state.now
    c.wake_side-in-ToReaders.new.state c.in-ToReaders.is c.wake_side-in-ToReaders.ensures.woken
    c.wake_side-in-ToReaders.ensures.nobody
