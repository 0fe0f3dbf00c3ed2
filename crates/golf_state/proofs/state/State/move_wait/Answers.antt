use Rattle.std.proofs.Common.{◌≡◌, ℕ, ◌+◌, List, Option, subst, refl, sym, ap, ◌∙◌}
use Rattle.golf_data.specs.declared.goroutine.Frame.{Frame}
use Rattle.golf_data.specs.declared.goroutine.Goroutine.{Goroutine}
use Rattle.golf_data.specs.declared.goroutine.Mode.{Mode}
use Rattle.golf_theory.specs.Maps.{find, put}
use Rattle.golf_model.specs.Views.{GoroutineView, goroutine_view}
use Rattle.golf_model.specs.State.{State, is_running}
use Rattle.golf_model.specs.Changes.{moved, move_wait}
use Rattle.golf_state.specs.Inside.{plain_state}
use Rattle.golf_state.specs.Looked.{on_goroutine, is_blocked}
use Rattle.golf_state_goroutines.specs.Places.{plain_entries}
use Rattle.golf_state_goroutines.specs.Roominess.{IsReadyIn}
use Rattle.golf_state.specs.Left.{leaves_in}
use Rattle.golf_state.specs.Enqueued.{AreEnqueued}
use Rattle.golf_state_queues.proofs.Partings.{below-without}
use Rattle.golf_state.proofs.Leaving.{others-stay}
use Rattle.golf_state.proofs.EnqueuedLaws.{enqueued-moved}
use Rattle.golf_state.proofs.PlaceLaws.{blocked-there, lent-found, lent-ready, lent-set, lent-kept, runs-same}
use Rattle.golf_state.proofs.state.State.move_wait.Goals as goal

moved-same : (m ticket : ℕ) (k : Mode) → is_running k ≡ is_running (moved m ticket k)
moved-same m ticket Mode.Running = refl
moved-same m ticket (Mode.Blocked kind line waits old) = refl

moved-ready : (m ticket : ℕ) (k : Mode) (fs : List Frame) → IsReadyIn k fs → IsReadyIn (moved m ticket k) fs
moved-ready m ticket Mode.Running fs r = tt
moved-ready m ticket (Mode.Blocked kind line waits old) fs r = r

pub get_mut-goroutine-requires : goal.get_mut-goroutine-requires
get_mut-goroutine-requires c =
    let g = c.args.g.0 in
    blocked-there (find g (plain_entries c.self.inside.roster.places))
    (ap (is_blocked g) c.self.view_is ∙ c.requires.blocked)

pub enter_for_mutex-self-inside-requires : goal.enter_for_mutex-self-inside-requires
enter_for_mutex-self-inside-requires c =
    below-without (leaves_in c.args.g.0 c.get_mut-goroutine.result.now.mode) c.self.inside.waiting
    c.leave_queues.new.queues c.leave_queues.ensures (c.self.inside.next_ticket + 1) c.self.invariant.enqueued.below

pub invariant_of-self : goal.invariant_of-self
invariant_of-self c =
    let s = c.self.inside in
    let gs = s.roster.places in
    let g = c.args.g.0 in
    let k = c.self.invariant.kept in
    let m = c.args.mutex.0 in
    let lent = c.get_mut-goroutine.result.now in
    let here = c.get_mut-goroutine.ensures.here in
    let x : Goroutine = record lent { mode = c.move_mode.new.mode } in
    let was = goroutine_view lent in
    let w = goroutine_view x in
    let found = lent-found gs g lent here k.rises in
    let same : is_running was.mode ≡ is_running w.mode = moved-same m s.next_ticket lent.mode
    ∙ ap is_running (sym c.move_mode.ensures) in
    let ready : IsReadyIn x.mode x.frames =
    subst (λ (k : Mode). IsReadyIn k lent.frames) (sym c.move_mode.ensures)
    (moved-ready m s.next_ticket lent.mode lent.frames (lent-ready gs g lent here k.rises k.ready)) in
    record {
      kept = lent-kept gs g lent here k.rises x k ready
          (k.running ∙ runs-same (plain_entries gs) g was w k.rises found same);
      enqueued = subst (λ (es : List (ℕ × GoroutineView)). AreEnqueued c.enter_for_mutex-self-inside.result es
          c.enter_for_mutex-self-inside.new.queues (s.next_ticket + 1)) (sym (lent-set gs g lent here k.rises x))
          (enqueued-moved s.are_mutexes_enqueued
          (plain_entries gs) s.waiting c.enter_for_mutex-self-inside.new.queues s.next_ticket
          c.self.invariant.enqueued k.rises c.enter_for_mutex-self-inside.result g m was w lent.mode
          c.enter_for_mutex-self-inside.ensures.still found c.move_mode.ensures (record {
            below = c.enter_for_mutex-self-inside.ensures.below;
            kept = λ j t h d l i. c.enter_for_mutex-self-inside.ensures.kept j t h l
                (others-stay g lent.mode s.waiting c.leave_queues.new.queues c.leave_queues.ensures j t h d i);
            there = c.enter_for_mutex-self-inside.ensures.joins;
          }));
      finalisers = c.self.invariant.finalisers;
    }

pub returns : goal.returns
returns c =
    let s = c.self.inside in
    let gs = s.roster.places in
    let g = c.args.g.0 in
    let k = c.self.invariant.kept in
    let m = c.args.mutex.0 in
    let lent = c.get_mut-goroutine.result.now in
    let here = c.get_mut-goroutine.ensures.here in
    let x : Goroutine = record lent { mode = c.move_mode.new.mode } in
    let act : GoroutineView → State → State = move_wait g m in
    let base : State = record (plain_state s) { next_ticket = s.next_ticket + 1 } in
    rw (← c.self.view_is)
    (ap (λ (es : List (ℕ × GoroutineView)). record base { goroutines = es }) (lent-set gs g lent here k.rises x)
    ∙ ap (λ (k : Mode). record base {
      goroutines = put g (record (goroutine_view lent) { mode = k })
          (plain_entries gs);
    }) c.move_mode.ensures
    ∙ sym (ap (λ (o : Option GoroutineView). on_goroutine act o (plain_state s)) (lent-found gs g lent here k.rises)))
