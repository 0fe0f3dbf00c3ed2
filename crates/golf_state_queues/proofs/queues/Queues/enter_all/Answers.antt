use Rattle.std.proofs.Common.{◌≡◌, ℕ, suc, ◌+◌, take, subst, arith}
use Rattle.golf_state_queues.specs.WaitQueues.{StandsInAll}
use Rattle.golf_state_queues.proofs.HolderLaws.{all-kept, all-more}
use Rattle.golf_state_queues.proofs.Adding.{adds-more}
use Rattle.golf_state_queues.proofs.queues.Queues.enter_all.Goals as goal

pub loop-wait-preserved : goal.loop-wait-preserved
loop-wait-preserved c =
    let ws = c.args.waits.now in
    let i = c.loop-wait.wait-index in
    let t = c.args.ticket in
    let g = c.args.goroutine.0 in
    let next : suc i ≡ i + 1 = omega arith in
    record {
      joins = subst (λ (n : ℕ). StandsInAll t g (take n ws) c.enter.new.self) next
          (all-more t g i ws _ c.enter.new.self c.loop-wait-test.true
          (all-kept t g (take i ws) c.loop-wait.self c.enter.new.self c.in_ok-enter.ensures.again
          c.loop-wait.invariant.joins) c.in_ok-enter.ensures.joins);
      kept = λ k u h p e. c.enter.ensures.kept k u h p (c.loop-wait.invariant.kept k u h p e);
      only = adds-more t g i ws _ c.args.self.now c.loop-wait.self c.enter.new.self c.loop-wait-test.true
          c.loop-wait.invariant.only c.enter.ensures.only;
      below = c.enter.ensures.below;
    }

pub returns-in_err-enter-clause-only : goal.returns-in_err-enter-clause-only
returns-in_err-enter-clause-only c =
    adds-more c.args.ticket c.args.goroutine.0 c.loop-wait.wait-index c.args.waits.now _ c.args.self.now
    c.loop-wait.self c.enter.new.self c.loop-wait-test.true c.loop-wait.invariant.only c.enter.ensures.only
