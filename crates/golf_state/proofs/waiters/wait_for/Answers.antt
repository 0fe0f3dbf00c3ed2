use Rattle.std.proofs.Common.{sym, ◌∙◌, arith}
use Rattle.golf_state.proofs.WaiterLaws.{wait_skip, wait_hit, wait_end}
use Rattle.golf_state.proofs.waiters.wait_for.Goals as goal

pub loop-wait-preserved : goal.loop-wait-preserved
loop-wait-preserved c = wait_skip c.args.object.0 c.args.side c.args.waits.now c.loop-wait.wait-index _
    c.loop-wait-test.true (sym c.fits.ensures ∙ c.if-fits.false) c.loop-wait.invariant

pub returns-then-fits : goal.returns-then-fits
returns-then-fits c = wait_hit c.args.object.0 c.args.side c.args.waits.now c.loop-wait.wait-index _
    c.loop-wait-test.true (sym c.fits.ensures ∙ c.if-fits.true) c.loop-wait.invariant

pub returns : goal.returns
returns c = wait_end c.args.object.0 c.args.side c.args.waits.now c.loop-wait.wait-index
    (omega arith) c.loop-wait.invariant
