use Rattle.std.proofs.Common.{◌≡◌, ℕ, suc, ◌+◌, [], take, refl, subst, arith}
use Rattle.golf_state_queues.specs.WaitQueues.{keys_of, leaves, IsWithout}
use Rattle.golf_state_queues.proofs.Partings.{without-none, without-more}
use Rattle.golf_state_queues.proofs.queues.Queues.leave_all.Goals as goal

pub loop-wait-init : goal.loop-wait-init
loop-wait-init c = without-none (leaves c.args.ticket c.args.goroutine.0 []) c.args.self.now (λ k h. refl)

pub loop-wait-preserved : goal.loop-wait-preserved
loop-wait-preserved c =
    let ws = c.args.waits.now in
    let i = c.loop-wait.wait-index in
    let t = c.args.ticket in
    let g = c.args.goroutine.0 in
    let next : suc i ≡ i + 1 = omega arith in
    subst (λ (n : ℕ). IsWithout (leaves t g (keys_of (take n ws))) c.args.self.now c.leave.new.self) next
    (without-more t g i ws _ c.args.self.now c.loop-wait.self c.leave.new.self c.loop-wait-test.true
    c.loop-wait.invariant c.leave.ensures)
