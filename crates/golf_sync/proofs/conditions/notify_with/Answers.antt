use Rattle.std.proofs.Common.{◌≡◌, List, ◌++◌, drop, refl, ap, ◌∙◌, sym, arith}
use Rattle.std.proofs.lemmas.Grind.{common_steps}
use Rattle.golf_theory.specs.Maps.{find}
use Rattle.golf_model.specs.Views.{FrameView}
use Rattle.golf_model.specs.Changes.{Change, apply_all}
use Rattle.golf_model.specs.Actors.{Actor, stands, goes, next, at_mutex}
use Rattle.golf_model.specs.Conditions.{requeues}
use Rattle.golf_state.proofs.Doings.{actor_of}
use Rattle.golf_state.proofs.Outcomings.{done-standing}
use Rattle.golf_sync.specs.Notified.{notified}
use Rattle.golf_sync.proofs.Notices.{count-same, requeued, ticket-same}
use Rattle.golf_sync.proofs.Outcomes.{passes-free}
use Rattle.golf_sync.proofs.conditions.notify_with.Goals as goal

pub requeue_all-requires-clause-tickets : goal.requeue_all-requires-clause-tickets
requeue_all-requires-clause-tickets c =
    let g = c.args.acting.goroutine.0 in
    let ticket = ticket-same g c.args.acting.after c.args.acting.line c.args.state.now c.proceed.new.state
    c.requires.stands c.proceed.ensures.state in
    let count = count-same g c.args.acting.after c.args.acting.line c.args.state.now c.proceed.new.state
    c.requires.stands c.proceed.ensures.state in
    omega (arith, c.requires.tickets, ticket, count)

pub requeue_first-requires : goal.requeue_first-requires
requeue_first-requires c =
    let g = c.args.acting.goroutine.0 in
    let ticket = ticket-same g c.args.acting.after c.args.acting.line c.args.state.now c.proceed.new.state
    c.requires.stands c.proceed.ensures.state in
    let count = count-same g c.args.acting.after c.args.acting.line c.args.state.now c.proceed.new.state
    c.requires.stands c.proceed.ensures.state in
    omega (arith, c.requires.tickets, ticket, count)

pub returns-then-all : goal.returns-then-all
returns-then-all c =
    let t = c.proceed.new.state in
    let e = requeued c.args.acting.goroutine.0 c.args.acting.after c.args.acting.line c.args.state.now t
    c.requires.stands c.proceed.ensures.state c.args.all c.args.condition.0 c.args.mutex.0 c.requeue_all.new.state
    c.requires.rises c.proceed.ensures.runs
    (c.requeue_all.ensures ∙ ap (λ b. apply_all
    (requeues c.args.mutex.0 (notified b c.args.condition.0 t.goroutines)) t)
    (sym c.if-all.true)) in
    let s = c.args.state.now in
    let st = c.requires.stands in
    let ws = notified c.args.all c.args.condition.0 s.goroutines in
    let act : Actor → List Change = λ a. at_mutex
    (λ locked. goes a (drop 1 a.frame.operands) ++ requeues c.args.mutex.0 ws) (find c.args.mutex.0 s.objects) in
    let h : FrameView = next st.frame (drop 1 st.frame.operands) in
    let rest : List Change = requeues c.args.mutex.0 ws in
    let is : act (actor_of st c.args.acting.line) ≡ stands (actor_of st c.args.acting.line) h ++ rest =
    grind (arith, common_steps) in (
      (grind (arith, common_steps, e.0), e.1),
      done-standing c.args.acting.goroutine.0 c.args.acting.after c.args.acting.line s st act h rest refl
          (passes-free c.args.mutex.0 ws) is,
    )

pub returns-else-all : goal.returns-else-all
returns-else-all c =
    let t = c.proceed.new.state in
    let e = requeued c.args.acting.goroutine.0 c.args.acting.after c.args.acting.line c.args.state.now t
    c.requires.stands c.proceed.ensures.state c.args.all c.args.condition.0 c.args.mutex.0 c.requeue_first.new.state
    c.requires.rises c.proceed.ensures.runs
    (c.requeue_first.ensures ∙ ap (λ b. apply_all
    (requeues c.args.mutex.0 (notified b c.args.condition.0 t.goroutines)) t) (sym c.if-all.false)) in
    let s = c.args.state.now in
    let st = c.requires.stands in
    let ws = notified c.args.all c.args.condition.0 s.goroutines in
    let act : Actor → List Change = λ a. at_mutex
    (λ locked. goes a (drop 1 a.frame.operands) ++ requeues c.args.mutex.0 ws) (find c.args.mutex.0 s.objects) in
    let h : FrameView = next st.frame (drop 1 st.frame.operands) in
    let rest : List Change = requeues c.args.mutex.0 ws in
    let is : act (actor_of st c.args.acting.line) ≡ stands (actor_of st c.args.acting.line) h ++ rest =
    grind (arith, common_steps) in (
      (grind (arith, common_steps, e.0), e.1),
      done-standing c.args.acting.goroutine.0 c.args.acting.after c.args.acting.line s st act h rest refl
          (passes-free c.args.mutex.0 ws) is,
    )
