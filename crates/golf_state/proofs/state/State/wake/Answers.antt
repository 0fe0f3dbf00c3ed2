use Rattle.std.proofs.Common.{◌≡◌, ℕ, true, List, Option, sym, ap, ◌∙◌, subst}
use Rattle.golf_theory.specs.Maps.{find}
use Rattle.golf_theory.specs.Stored.{placed}
use Rattle.golf_model.specs.Views.{GoroutineView, goroutine_view}
use Rattle.golf_model.specs.State.{State, is_running}
use Rattle.golf_model.specs.Changes.{become}
use Rattle.golf_state.specs.Inside.{AreKept, plain_state}
use Rattle.golf_state.specs.Looked.{on_goroutine, is_blocked}
use Rattle.golf_state.specs.Wakenings.{wakened}
use Rattle.golf_state_goroutines.specs.Goroutines.{Goroutines}
use Rattle.golf_state_goroutines.specs.Places.{plain_entries}
use Rattle.golf_state.specs.Left.{leaves_in}
use Rattle.golf_state.specs.Enqueued.{AreEnqueued}
use Rattle.golf_state_queues.proofs.Partings.{below-without}
use Rattle.golf_state.proofs.Leaving.{others-stay}
use Rattle.golf_state.proofs.EnqueuedLaws.{enqueued-woken}
use Rattle.golf_state.proofs.PlaceLaws.{blocked-there, none-runs, put-there, lent-found, lent-blocked, lent-ready}
use Rattle.golf_state.proofs.PlaceLaws.{lent-set, lent-kept, runs-woken}
use Rattle.golf_state.proofs.Readiness.{running-ready, blocked-room, wakened-runs}
use Rattle.golf_state.proofs.state.State.wake.Goals as goal

pub get_mut-goroutine-requires : goal.get_mut-goroutine-requires
get_mut-goroutine-requires c =
    let g = c.args.g.0 in
    blocked-there (find g (plain_entries c.self.inside.roster.places)) (ap (is_blocked g) c.self.view_is ∙ c.requires)

pub waken-requires : goal.waken-requires
waken-requires c =
    let s = c.self.inside in
    let gs = s.roster.places in
    let g = c.args.g.0 in
    let k = c.self.invariant.kept in
    let lent = c.get_mut-goroutine.result.now in
    let here = c.get_mut-goroutine.ensures.here in
    blocked-room lent.mode lent.frames (lent-blocked gs g lent here k.rises
    (ap (is_blocked g) c.self.view_is ∙ c.requires)) (lent-ready gs g lent here k.rises k.ready)

pub start_running-requires-clause-there : goal.start_running-requires-clause-there
start_running-requires-clause-there c =
    let s = c.self.inside in
    let gs = s.roster.places in
    let g = c.args.g.0 in
    let k = c.self.invariant.kept in
    let lent = c.get_mut-goroutine.result.now in
    let here = c.get_mut-goroutine.ensures.here in
    put-there gs g lent here k.rises c.waken.new.goroutine

pub start_running-requires-clause-none : goal.start_running-requires-clause-none
start_running-requires-clause-none c =
    let s = c.self.inside in
    let gs = s.roster.places in
    let g = c.args.g.0 in
    let k = c.self.invariant.kept in
    let lent = c.get_mut-goroutine.result.now in
    let here = c.get_mut-goroutine.ensures.here in
    none-runs gs g lent here k.rises s.roster.running k.running
    (lent-blocked gs g lent here k.rises (ap (is_blocked g) c.self.view_is ∙ c.requires))

pub invariant_of-self : goal.invariant_of-self
invariant_of-self c =
    let s = c.self.inside in
    let gs = s.roster.places in
    let g = c.args.g.0 in
    let k = c.self.invariant.kept in
    let lent = c.get_mut-goroutine.result.now in
    let here = c.get_mut-goroutine.ensures.here in
    let x = c.waken.new.goroutine in
    let was = goroutine_view lent in
    let w = goroutine_view x in
    let found = lent-found gs g lent here k.rises in
    let blocked = lent-blocked gs g lent here k.rises (ap (is_blocked g) c.self.view_is ∙ c.requires) in
    let runs : is_running w.mode ≡ true = ap (λ (r : GoroutineView). is_running r.mode) c.waken.ensures
    ∙ wakened-runs c.args.how was in
    record {
      kept = subst (λ (r : Goroutines). AreKept r.places r.running s.next_goroutine) (sym c.start_running.ensures)
          (lent-kept gs g lent here k.rises x k (running-ready x.mode x.frames runs)
          (ap (placed g) k.running ∙ runs-woken (plain_entries gs) g was w k.rises found blocked runs));
      enqueued = subst (λ (es : List (ℕ × GoroutineView)). AreEnqueued s.are_mutexes_enqueued es
          c.leave_queues.new.queues s.next_ticket)
          (sym (ap (λ (r : Goroutines). plain_entries r.places) c.start_running.ensures
          ∙ lent-set gs g lent here k.rises x))
          (enqueued-woken s.are_mutexes_enqueued
          (plain_entries gs) s.waiting c.leave_queues.new.queues s.next_ticket c.self.invariant.enqueued k.rises g
          was w found (below-without (leaves_in g lent.mode) s.waiting c.leave_queues.new.queues
          c.leave_queues.ensures) (others-stay g lent.mode s.waiting c.leave_queues.new.queues
          c.leave_queues.ensures) runs);
      finalisers = c.self.invariant.finalisers;
    }

pub returns : goal.returns
returns c =
    let s = c.self.inside in
    let gs = s.roster.places in
    let g = c.args.g.0 in
    let k = c.self.invariant.kept in
    let lent = c.get_mut-goroutine.result.now in
    let here = c.get_mut-goroutine.ensures.here in
    let act : GoroutineView → State → State = λ r. become g (wakened c.args.how r) in
    rw (← c.self.view_is)
    (ap (λ (es : List (ℕ × GoroutineView)). record (plain_state s) { goroutines = es })
    (ap (λ (r : Goroutines). plain_entries r.places) c.start_running.ensures
    ∙ lent-set gs g lent here k.rises c.waken.new.goroutine)
    ∙ ap (λ (r : GoroutineView). become g r (plain_state s)) c.waken.ensures
    ∙ sym (ap (λ (o : Option GoroutineView). on_goroutine act o (plain_state s)) (lent-found gs g lent here k.rises)))
