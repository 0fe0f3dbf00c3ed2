use Rattle.std.proofs.Common.{◌≡◌, ◌+◌, ◌<◌, ◌^◌, length}
use Rattle.std.specs.Prelude.{IsSome}
use Rattle.golf_data.specs.declared.goroutine.Side.{Side}
use Rattle.golf_theory.specs.Maps.{find}
use Rattle.golf_model.specs.Waiters.{waiters}
use Rattle.golf_model.specs.Changes.{apply_all}
use Rattle.golf_model.specs.Conditions.{requeues}
use Rattle.golf_sync.specs.Objects.{mutex_of}
use Rattle.golf_sync.proofs.conditions.requeue_all.Given as goal

-- once those who still wait are requeued, all are
abbrev pub invariant-loop-waiting : goal.invariant-loop-waiting
invariant-loop-waiting l = record {
  all : apply_all (requeues l.mutex.0 (waiters l.condition.0 Side.Cond l.state.goroutines)) l.state ≡ apply_all
      (requeues l.mutex.0 (waiters l.condition.0 Side.Cond l.initial.state.goroutines)) l.initial.state;
  tickets : l.state.next_ticket + length (waiters l.condition.0 Side.Cond l.state.goroutines) < 2 ^ 64;
  mutex : IsSome (mutex_of (find l.mutex.0 l.state.objects));
}

abbrev pub decreases-loop-waiting : goal.decreases-loop-waiting
decreases-loop-waiting l = length (waiters l.condition.0 Side.Cond l.state.goroutines)
