use Rattle.std.proofs.Common.{◌≡◌, ap, ◌∙◌, arith, [], ◌∷◌, ◌++◌, drop, List, Option}
use Rattle.std.proofs.lemmas.Grind.{common_steps}
use Rattle.golf_data.specs.declared.goroutine.Side.{Side}
use Rattle.golf_data.specs.declared.goroutine.WaitKind.{WaitKind}
use Rattle.golf_theory.specs.Maps.{find}
use Rattle.golf_model.specs.Views.{FrameView, GoroutineView}
use Rattle.golf_model.specs.State.{State}
use Rattle.golf_model.specs.Changes.{Change, apply_all}
use Rattle.golf_model.specs.Actors.{Actor, standing, blocks, next, at_mutex}
use Rattle.golf_model.specs.Waiters.{bare_wait, first}
use Rattle.golf_model.specs.Mutexes.{hands_over}
use Rattle.golf_model.specs.Conditions.{awaits_by}
use Rattle.golf_state.specs.ActorChanges.{does_by}
use Rattle.golf_state.specs.FrameChanges.{went}
use Rattle.golf_state.specs.Outcomes.{outcome_of}
use Rattle.golf_state.specs.declared.outcome.Outcome.{Outcome}
use Rattle.golf_state.specs.Looked.{is_blocked}
use Rattle.golf_state.proofs.Runnings.{blocked-handed}
use Rattle.golf_state.proofs.Doings.{does-is, apply_all-append, actor_of}
use Rattle.golf_state.proofs.Serving.{beside-put, handed-ready, handed-is, handed-swap, apart-some}
use Rattle.golf_sync.proofs.Outcomes.{blocks-behind}
use Rattle.golf_sync.proofs.conditions.await_with.Goals as goal

pub hand_over-requires : goal.hand_over-requires
hand_over-requires c =
    let s = c.args.state.now in
    let g = c.args.acting.goroutine.0 in
    let after = c.args.acting.after in
    let act : Actor → List Change = λ a. blocks a (went after 1 [] a.frame) WaitKind.Condition
    (bare_wait c.args.condition.0 Side.Cond ∷ []) in
    let b = beside-put g after s c.requires c.block_on.new.state _
    (ap (λ (t : State). t.goroutines) (c.in_ok-block_on.ensures.ok
    ∙ does-is g after s c.requires act c.args.acting.line)) in
    handed-ready s (first c.args.mutex.0 Side.Lock s.goroutines) c.first_waiter-waiting.result
    c.first_waiter-waiting.ensures.first c.first_waiter-waiting.ensures.blocked c.block_on.new.state b

pub returns-clause-ok : goal.returns-clause-ok
returns-clause-ok c =
    let s = c.args.state.now in
    let g = c.args.acting.goroutine.0 in
    let after = c.args.acting.after in
    let m = first c.args.mutex.0 Side.Lock s.goroutines in
    let waits = bare_wait c.args.condition.0 Side.Cond ∷ [] in
    let act : Actor → List Change = λ a. blocks a (went after 1 [] a.frame) WaitKind.Condition waits in
    let A = actor_of c.requires c.args.acting.line in
    let now = c.in_ok-block_on.ensures.ok ∙ does-is g after s c.requires act c.args.acting.line in
    let b = beside-put g after s c.requires c.block_on.new.state _ (ap (λ (t : State). t.goroutines) now) in
    let e =
    c.hand_over.ensures ∙ handed-is s m c.first_waiter-waiting.result c.first_waiter-waiting.ensures.first
    c.first_waiter-waiting.ensures.blocked c.block_on.new.state b c.args.mutex.0
    ∙ ap (apply_all (hands_over c.args.mutex.0 m)) now
    ∙ handed-swap g s WaitKind.Condition c.args.acting.line waits
    (standing A (went after 1 [] c.requires.frame)) c.args.mutex.0 m
    (apart-some g after s c.requires m c.first_waiter-waiting.ensures.blocked) in
    let append = apply_all-append (hands_over c.args.mutex.0 m)
    (blocks A (next c.requires.frame (drop 1 c.requires.frame.operands)) WaitKind.Condition waits) s in
    let stays =
    ap (is_blocked g) (c.hand_over.ensures
    ∙ handed-is s m c.first_waiter-waiting.result c.first_waiter-waiting.ensures.first
    c.first_waiter-waiting.ensures.blocked c.block_on.new.state b c.args.mutex.0)
    ∙ blocked-handed g c.args.mutex.0 m c.block_on.new.state
    (apart-some g after s c.requires m c.first_waiter-waiting.ensures.blocked) c.in_ok-block_on.ensures.blocked in
    let by : Actor → List Change = λ a. at_mutex
    (awaits_by a (drop 1 a.frame.operands) s c.args.condition.0 c.args.mutex.0) (find c.args.mutex.0 s.objects) in
    let f : FrameView = next c.requires.frame (drop 1 c.requires.frame.operands) in
    let is : by A ≡ hands_over c.args.mutex.0 m ++ blocks A f WaitKind.Condition waits = grind (arith, common_steps) in
    let comes : outcome_of (does_by by g c.args.acting.line (find g s.goroutines)) ≡ Outcome.Blocked =
    ap (λ (o : Option GoroutineView). outcome_of (does_by by g c.args.acting.line o)) c.requires.found
    ∙ ap outcome_of is ∙ blocks-behind c.args.mutex.0 m A f WaitKind.Condition waits in
    ((grind (arith, common_steps, e, append), stays), λ stay. comes)
