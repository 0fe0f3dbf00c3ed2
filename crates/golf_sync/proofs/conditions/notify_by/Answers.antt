use Rattle.std.proofs.Common.{ap, ◌∙◌, sym, arith, ◌∷◌, ◌++◌, drop, List}
use Rattle.std.proofs.lemmas.Grind.{common_steps}
use Rattle.golf_data.specs.declared.goroutine.Side.{Side}
use Rattle.golf_data.specs.declared.value.Value.{Value}
use Rattle.golf_theory.specs.Maps.{find}
use Rattle.golf_model.specs.Changes.{Change}
use Rattle.golf_model.specs.Actors.{Actor, goes, at_mutex}
use Rattle.golf_model.specs.Waiters.{Waiter, first}
use Rattle.golf_model.specs.Conditions.{requeues, notifies}
use Rattle.golf_state.proofs.Doings.{actor_of}
use Rattle.golf_state.proofs.References.{is-reference}
use Rattle.golf_state.proofs.Outcomings.{comes-same, acts-same}
use Rattle.golf_sync.specs.Notified.{notified}
use Rattle.golf_sync.proofs.Notices.{none-of, notified-none, notified-from}
use Rattle.golf_sync.proofs.conditions.notify_by.Goals as goal

pub returns-then-is_none : goal.returns-then-is_none
returns-then-is_none c =
    let s = c.args.state.now in
    let none = notified-none c.args.all c.args.condition.0 s.goroutines
    (none-of (first c.args.condition.0 Side.Cond s.goroutines) c.first_waiter.result c.first_waiter.ensures.first
    c.if-is_none.ensures) in
    grind (arith, common_steps, none)

pub returns-in-To : goal.returns-in-To
returns-in-To c =
    let s = c.args.state.now in
    let n = notified-from c.args.all c.args.condition.0 s.goroutines c.first_waiter.result c.first_waiter.ensures.first
    c.if-is_none.ensures in
    let f : Value → List Waiter → Actor → List Change = λ v ws a. notifies a (drop 1 a.frame.operands) s ws v in
    let g : List Waiter → Actor → List Change =
    λ ws a. at_mutex (λ locked. goes a (drop 1 a.frame.operands) ++ requeues c.in-To.mutex.0 ws)
    (find c.in-To.mutex.0 s.objects) in
    let A = actor_of c.requires.stands c.args.acting.line in
    comes-same c.notify_with.result (g (notified c.args.all c.args.condition.0 s.goroutines))
    (f c.args.mutex (notified c.args.all c.args.condition.0 s.goroutines)) c.args.acting.goroutine.0
    c.args.acting.line s c.notify_with.new.state
    (acts-same c.args.acting.goroutine.0 c.args.acting.after c.args.acting.line s c.requires.stands
    (g (notified c.args.all c.args.condition.0 s.goroutines))
    (f c.args.mutex (notified c.args.all c.args.condition.0 s.goroutines))
    (ap (λ (ws : List Waiter). g ws A) n.2
    ∙ sym (ap (λ (v : Value). f v (n.0 ∷ n.1) A)
    (is-reference c.args.mutex c.in-To.mutex (sym c.reference_in.ensures ∙ c.in-To.is)))
    ∙ sym (ap (λ (ws : List Waiter). f c.args.mutex ws A) n.2)))
    c.notify_with.ensures

pub returns-in-Nil : goal.returns-in-Nil
returns-in-Nil c =
    let n = notified-from c.args.all c.args.condition.0 c.args.state.now.goroutines c.first_waiter.result
    c.first_waiter.ensures.first c.if-is_none.ensures in
    grind (arith, common_steps, n.2)

pub returns-in-Misfit : goal.returns-in-Misfit
returns-in-Misfit c =
    let n = notified-from c.args.all c.args.condition.0 c.args.state.now.goroutines c.first_waiter.result
    c.first_waiter.ensures.first c.if-is_none.ensures in
    grind (arith, common_steps, n.2)
