use Rattle.std.proofs.Common.{true, ap, ◌∙◌, refl, sym, arith, length, List}
use Rattle.std.specs.Prelude.{is_some}
use Rattle.golf_data.specs.declared.goroutine.Side.{Side}
use Rattle.golf_theory.specs.Maps.{find}
use Rattle.golf_model.specs.State.{State}
use Rattle.golf_model.specs.Changes.{apply_all, requeue}
use Rattle.golf_model.specs.Waiters.{Waiter, first, waiters}
use Rattle.golf_model.specs.Conditions.{requeues}
use Rattle.golf_state.specs.declared.waiters.Waiting.{Waiting}
use Rattle.golf_state.proofs.Serving.{beside-same, served-from, served-blocked}
use Rattle.golf_sync.specs.Objects.{mutex_of}
use Rattle.golf_sync.proofs.Notices.{none-of, notified-none, notified-some, passed, waiters-count}
use Rattle.golf_sync.proofs.conditions.requeue_all.Goals as goal

pub loop-waiting-init : goal.loop-waiting-init
loop-waiting-init c = record {
  all = refl;
  tickets = omega (arith, c.requires.tickets, waiters-count c.args.condition.0 Side.Cond c.args.state.now.goroutines);
  mutex = c.requires.mutex;
}

pub requeue-requires-clause-blocked : goal.requeue-requires-clause-blocked
requeue-requires-clause-blocked c =
    let s = c.loop-waiting.state in
    let m = first c.args.condition.0 Side.Cond s.goroutines in
    served-blocked s m c.in-Some.waiting (served-from s m c.in-Some.waiting c.in-Some.ensures.first
    c.in-Some.ensures.blocked) s (beside-same s s refl)

pub requeue-requires-clause-tickets : goal.requeue-requires-clause-tickets
requeue-requires-clause-tickets c =
    let s = c.loop-waiting.state in
    let o = c.args.condition.0 in
    let w = served-from s (first o Side.Cond s.goroutines) c.in-Some.waiting c.in-Some.ensures.first
    c.in-Some.ensures.blocked in
    let rest = notified-some true o s.goroutines w.waiter w.is in
    omega (arith, c.loop-waiting.invariant.tickets, ap (λ (ws : List Waiter). length ws) rest.1)

pub loop-waiting-smaller : goal.loop-waiting-smaller
loop-waiting-smaller c =
    let s = c.loop-waiting.state in
    let o = c.args.condition.0 in
    let w = served-from s (first o Side.Cond s.goroutines) c.in-Some.waiting c.in-Some.ensures.first
    c.in-Some.ensures.blocked in
    let rest = notified-some true o s.goroutines w.waiter w.is in
    let p = passed o c.args.mutex.0 s w.waiter rest.0 (find w.waiter.number s.goroutines)
    (find c.args.mutex.0 s.objects) (record {
      rises = c.in-Some.ensures.rises;
      goroutine = w.found;
      object = refl;
      mutex = c.loop-waiting.invariant.mutex;
      first = rest.1;
    }) in
    let e = c.requeue.ensures ∙ ap (λ (x : Waiting). requeue x.goroutine.0 c.args.mutex.0
    (find x.goroutine.0 s.goroutines) (find c.args.mutex.0 s.objects) s) w.told in
    omega (
      arith,
      ap (λ (ws : List Waiter). length ws) rest.1,
      ap (λ (t : State). length (waiters o Side.Cond t.goroutines)) e,
      ap (λ (ws : List Waiter). length ws) p.waiters,
    )

pub loop-waiting-preserved : goal.loop-waiting-preserved
loop-waiting-preserved c =
    let s = c.loop-waiting.state in
    let o = c.args.condition.0 in
    let m = c.args.mutex.0 in
    let w = served-from s (first o Side.Cond s.goroutines) c.in-Some.waiting c.in-Some.ensures.first
    c.in-Some.ensures.blocked in
    let rest = notified-some true o s.goroutines w.waiter w.is in
    let p = passed o m s w.waiter rest.0 (find w.waiter.number s.goroutines) (find m s.objects)
    (record {
      rises = c.in-Some.ensures.rises;
      goroutine = w.found;
      object = refl;
      mutex = c.loop-waiting.invariant.mutex;
      first = rest.1;
    }) in
    let t = requeue w.waiter.number m (find w.waiter.number s.goroutines) (find m s.objects) s in
    let e = c.requeue.ensures ∙ ap (λ (x : Waiting). requeue x.goroutine.0 m (find x.goroutine.0 s.goroutines)
    (find m s.objects) s) w.told in
    record {
      all =
          ap (λ (u : State). apply_all (requeues m (waiters o Side.Cond u.goroutines)) u) e
          ∙ ap (λ (ws : List Waiter). apply_all (requeues m ws) t) p.waiters
          ∙ sym (ap (λ (ws : List Waiter). apply_all (requeues m ws) s) rest.1)
          ∙ c.loop-waiting.invariant.all;
      tickets = omega (
        arith,
        c.loop-waiting.invariant.tickets,
        ap (λ (ws : List Waiter). length ws) rest.1,
        ap (λ (u : State). length (waiters o Side.Cond u.goroutines)) e,
        ap (λ (ws : List Waiter). length ws) p.waiters,
        ap (λ (u : State). u.next_ticket) e,
        p.tickets,
      );
      mutex = ap (λ (u : State). is_some (mutex_of (find m u.objects))) e ∙ p.mutex;
    }

pub returns : goal.returns
returns c =
    let s = c.loop-waiting.state in
    let o = c.args.condition.0 in
    let none = none-of (first o Side.Cond s.goroutines) c.first_waiter.result c.first_waiter.ensures.first
    (ap is_some c.in_default.is) in
    sym (ap (λ (ws : List Waiter). apply_all (requeues c.args.mutex.0 ws) s) (notified-none true o s.goroutines none))
    ∙ c.loop-waiting.invariant.all
