use Rattle.std.proofs.Common.{◌<◌, refl, subst}
use Rattle.golf_data.proofs.Equal.{same-so-far, same-to-end}
use Rattle.golf_state_equality.proofs.frames.same_calls.Goals as goal

pub loop-at-init : goal.loop-at-init
loop-at-init c = λ e. e

pub loop-at-preserved : goal.loop-at-preserved
loop-at-preserved c =
    same-so-far c.args.calls.now c.args.others.now c.loop-at.at
    (record {
      left = c.index-calls-at.result;
      right = c.index-others-at.result;
      within_left = c.loop-at-test.true;
      within_right = subst (λ n. c.loop-at.at < n) c.if-calls-others.false c.loop-at-test.true;
      left_is = c.index-calls-at.is;
      right_is = c.index-others-at.is;
      equal = c.is_same_call.ensures.0 c.if-not-is_same_call.false;
    })
    c.loop-at.invariant

pub returns : goal.returns
returns c = (
  λ t. same-to-end c.args.calls.now c.args.others.now c.loop-at.at c.if-calls-others.false
      c.loop-at-test.false c.loop-at.invariant,
  λ e. refl,
)
