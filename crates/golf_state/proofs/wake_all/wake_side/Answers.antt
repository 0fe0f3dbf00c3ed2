use Rattle.std.proofs.Common.{sym}
use Rattle.golf_state.proofs.WakeLaws.{stepped, passed, woken-more}
use Rattle.golf_state.proofs.wake_all.wake_side.Goals as goal

pub loop-holder-preserved-in-Some-wakening : goal.loop-holder-preserved-in-Some-wakening
loop-holder-preserved-in-Some-wakening c =
    let s = c.loop-holder.state in
    let o = c.args.object.0 in
    let how = c.args.how in
    let step = stepped c.loop-holder.before o c.args.side how s c.wake.new.self c.in-Some.holder
    c.in-Some-wakening.wakening
    (record { rises = c.in-Some.ensures.rises; last = c.in-Some.ensures.last; below = c.loop-holder.invariant.below })
    c.in-Some-wakening.ensures c.wake.ensures in
    record {
      woken = woken-more o how c.args.state.now s c.wake.new.self c.loop-holder.invariant.woken step.woken;
      below = step.below;
    }

pub loop-holder-preserved : goal.loop-holder-preserved
loop-holder-preserved c = record {
  woken = c.loop-holder.invariant.woken;
  below = passed c.loop-holder.before c.args.object.0 c.args.side c.args.how c.loop-holder.state.goroutines
      c.in-Some.holder (record {
        rises = c.in-Some.ensures.rises;
        last = c.in-Some.ensures.last;
        below = c.loop-holder.invariant.below;
      }) (sym c.in_default-wakening.ensures);
}
