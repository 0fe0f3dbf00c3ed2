use Rattle.std.proofs.Common.{Option, None, refl, subst}
use Rattle.golf_model.specs.Views.{GoroutineView}
use Rattle.golf_state_queues.specs.WaitQueues.{IsWithout}
use Rattle.golf_state_queues.proofs.Partings.{without-none}
use Rattle.golf_state.specs.Left.{leaves_where}
use Rattle.golf_state.proofs.waiters.forget.Goals as goal

pub returns-in-Some : goal.returns-in-Some
returns-in-Some c = subst (λ (o : Option GoroutineView). IsWithout
    (leaves_where c.args.g.0 o) c.args.queues.now c.leave_queues.new.queues) c.in-Some.ensures c.leave_queues.ensures

pub returns-in_default : goal.returns-in_default
returns-in_default c =
    subst (λ (o : Option GoroutineView). IsWithout (leaves_where c.args.g.0 o) c.args.queues.now c.args.queues.now)
    c.in_default.ensures
    (without-none (leaves_where c.args.g.0 None) c.args.queues.now (λ k h. refl))
