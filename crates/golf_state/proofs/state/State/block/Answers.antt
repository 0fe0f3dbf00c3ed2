use Rattle.std.proofs.Common.{◌≡◌, ℕ, ◌+◌, List, Option, subst, refl, sym, ap, ◌∙◌, rules}
use Rattle.std.proofs.lemmas.Result.{err_from_is_err_and}
use Rattle.golf_data.specs.declared.goroutine.Frame.{Frame}
use Rattle.golf_data.specs.declared.goroutine.Goroutine.{Goroutine}
use Rattle.golf_data.specs.declared.goroutine.Mode.{Mode}
use Rattle.golf_data.specs.declared.goroutine.Wait.{Wait}
use Rattle.golf_theory.specs.Maps.{find, put}
use Rattle.golf_theory.specs.Stored.{without}
use Rattle.golf_model.specs.Views.{GoroutineView, goroutine_view}
use Rattle.golf_model.specs.State.{State, is_running}
use Rattle.golf_model.specs.Changes.{block}
use Rattle.golf_state_queues.specs.WaitQueues.{StandsInAll}
use Rattle.golf_state.specs.Inside.{AreKept, plain_state}
use Rattle.golf_state.specs.Enqueued.{AreEnqueued}
use Rattle.golf_state.specs.Looked.{on_goroutine, advanced}
use Rattle.golf_state_goroutines.specs.Goroutines.{Goroutines}
use Rattle.golf_state_goroutines.specs.Places.{plain_entries}
use Rattle.golf_state_goroutines.specs.Roominess.{HasRoom, IsReadyIn}
use Rattle.golf_state.proofs.EnqueuedLaws.{enqueued-blocked, enqueued-joined}
use Rattle.golf_state.proofs.PlaceLaws.{put-same, none-there, lent-found, lent-ready, lent-set, lent-kept, runs-same}
use Rattle.golf_state.proofs.PlaceLaws.{runs-blocked}
use Rattle.golf_state.proofs.state.State.block.Goals as goal

pub returns-then-not-has-clause-ok : goal.returns-then-not-has-clause-ok
returns-then-not-has-clause-ok c =
    let s = c.self.inside in
    let g = c.args.g.0 in
    let act : GoroutineView → State → State =
    λ r. block g c.args.kind c.args.line c.args.waits (advanced c.args.after c.args.taken r) in
    let none = none-there c.has.result (find g (plain_entries s.roster.places)) c.has.ensures c.if-not-has.true in
    rw (← c.self.view_is) (sym (ap (λ (o : Option GoroutineView). on_goroutine act o (plain_state s)) none))

-- what was ready stays so
still : (m : Mode) (fs gs : List Frame) → (HasRoom fs → HasRoom gs) → IsReadyIn m fs → IsReadyIn m gs
still Mode.Running fs gs h r = tt
still (Mode.Blocked kind line waits ticket) fs gs h r = h r

-- some of its queues have the goroutine, which does not block
pub invariant_of-self : goal.invariant_of-self
invariant_of-self c =
    let s = c.self.inside in
    record {
      kept = c.self.invariant.kept;
      enqueued = enqueued-joined s.are_mutexes_enqueued
          (plain_entries s.roster.places) s.waiting c.enter_all.new.self s.next_ticket c.self.invariant.enqueued
          c.enter_all.ensures.below c.enter_all.ensures.kept;
      finalisers = c.self.invariant.finalisers;
    }

pub invariant_of-self-in_err-settle : goal.invariant_of-self-in_err-settle
invariant_of-self-in_err-settle c =
    let s = c.self.inside in
    let gs = s.roster.places in
    let g = c.args.g.0 in
    let k = c.self.invariant.kept in
    let lent = c.get_mut-goroutine.result.now in
    let here = c.get_mut-goroutine.ensures.here in
    let x = c.settle.new.goroutine in
    let was = goroutine_view lent in
    let found = lent-found gs g lent here k.rises in
    let seen : goroutine_view x ≡ was = c.in_err-settle.ensures.err in
    let same : put g (goroutine_view x) (plain_entries gs) ≡ plain_entries gs =
    ap (λ (r : GoroutineView). put g r (plain_entries gs)) seen
    ∙ put-same g 0 was (plain_entries gs) k.rises found in
    let ready : IsReadyIn x.mode x.frames =
    subst (λ (m : Mode). IsReadyIn m x.frames) (sym c.in_err-settle.ensures.mode)
    (still lent.mode lent.frames x.frames c.in_err-settle.ensures.kept
    (lent-ready gs g lent here k.rises k.ready)) in
    record {
      kept = lent-kept gs g lent here k.rises x k ready
          (k.running ∙ runs-same (plain_entries gs) g was (goroutine_view x) k.rises found
          (ap (λ (r : GoroutineView). is_running r.mode) (sym seen)));
      enqueued = subst (λ (es : List (ℕ × GoroutineView)). AreEnqueued s.are_mutexes_enqueued es c.enter_all.new.self
          s.next_ticket) (sym (lent-set gs g lent here k.rises x ∙ same))
          (enqueued-joined s.are_mutexes_enqueued
          (plain_entries gs) s.waiting c.enter_all.new.self s.next_ticket c.self.invariant.enqueued
          c.enter_all.ensures.below c.enter_all.ensures.kept);
      finalisers = c.self.invariant.finalisers;
    }

pub returns-in_err-settle-clause-err : goal.returns-in_err-settle-clause-err
returns-in_err-settle-clause-err c =
    let s = c.self.inside in
    let gs = s.roster.places in
    let g = c.args.g.0 in
    let k = c.self.invariant.kept in
    let lent = c.get_mut-goroutine.result.now in
    let here = c.get_mut-goroutine.ensures.here in
    let x = c.settle.new.goroutine in
    let found = lent-found gs g lent here k.rises in
    let e = err_from_is_err_and c.from_residual-in_err-settle.result c.from_residual-in_err-settle.ensures.1 in
    rw (e.1, ← c.self.view_is)
    (ap (λ (es : List (ℕ × GoroutineView)). record (plain_state s) { goroutines = es })
    (lent-set gs g lent here k.rises x
    ∙ ap (λ (r : GoroutineView). put g r (plain_entries gs)) c.in_err-settle.ensures.err
    ∙ put-same g 0 (goroutine_view lent) (plain_entries gs) k.rises found))

pub invariant_of-self-2 : goal.invariant_of-self-2
invariant_of-self-2 c =
    let s = c.self.inside in
    let gs = s.roster.places in
    let g = c.args.g.0 in
    let k = c.self.invariant.kept in
    let lent = c.get_mut-goroutine.result.now in
    let here = c.get_mut-goroutine.ensures.here in
    let mode = Mode.Blocked c.args.kind c.args.line c.args.waits s.next_ticket in
    let x : Goroutine = record c.settle.new.goroutine { mode = mode } in
    let found = lent-found gs g lent here k.rises in
    let next : c.in_ok-next_ticket.next_ticket ≡ s.next_ticket + 1 = search rules in
    let joins : StandsInAll s.next_ticket g c.args.waits c.enter_all.new.self =
    subst (λ (ws : List Wait). StandsInAll s.next_ticket g ws c.enter_all.new.self) c.as_slice.ensures
    c.in_ok-enter_all.ensures.joins in
    let line = enqueued-blocked c.enter_all.new.self s.next_ticket g
    (goroutine_view x) c.args.kind c.args.line c.args.waits c.self.invariant.enqueued refl
    (record { below = c.enter_all.ensures.below; kept = c.enter_all.ensures.kept; stands = joins }) in
    record {
      kept = subst (λ (r : Goroutines). AreKept r.places r.running s.next_goroutine) (sym c.stop_running.ensures)
          (lent-kept gs g lent here k.rises x k c.in_ok-settle.ensures.room
          (ap (without g) k.running ∙ runs-blocked (plain_entries gs) g (goroutine_view x) refl));
      enqueued = subst (λ (n : ℕ). AreEnqueued s.are_mutexes_enqueued
          (plain_entries c.stop_running.new.self.places) c.enter_all.new.self n) (sym next)
          (subst (λ (r : Goroutines). AreEnqueued s.are_mutexes_enqueued (plain_entries r.places) c.enter_all.new.self
          (s.next_ticket + 1)) (sym c.stop_running.ensures)
          (subst (λ (es : List (ℕ × GoroutineView)). AreEnqueued s.are_mutexes_enqueued es c.enter_all.new.self
          (s.next_ticket + 1)) (sym (lent-set gs g lent here k.rises x)) line));
      finalisers = c.self.invariant.finalisers;
    }

pub returns-clause-ok : goal.returns-clause-ok
returns-clause-ok c =
    let s = c.self.inside in
    let gs = s.roster.places in
    let g = c.args.g.0 in
    let k = c.self.invariant.kept in
    let lent = c.get_mut-goroutine.result.now in
    let here = c.get_mut-goroutine.ensures.here in
    let mode = Mode.Blocked c.args.kind c.args.line c.args.waits s.next_ticket in
    let x : Goroutine = record c.settle.new.goroutine { mode = mode } in
    let act : GoroutineView → State → State =
    λ r. block g c.args.kind c.args.line c.args.waits (advanced c.args.after c.args.taken r) in
    let next : c.in_ok-next_ticket.next_ticket ≡ s.next_ticket + 1 = search rules in
    let set = ap (λ (r : Goroutines). plain_entries r.places) c.stop_running.ensures ∙ lent-set gs g lent here k.rises x
    ∙ ap (λ (r : GoroutineView). put g (record r { mode = mode }) (plain_entries gs)) c.in_ok-settle.ensures.ok in
    rw (← c.self.view_is)
    ((λ i. record (plain_state s) { goroutines = set i; next_ticket = next i })
    ∙ sym (ap (λ (o : Option GoroutineView). on_goroutine act o (plain_state s)) (lent-found gs g lent here k.rises)))
