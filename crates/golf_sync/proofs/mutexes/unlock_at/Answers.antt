use Rattle.std.proofs.Common.{◌≡◌, List, [], ◌++◌, drop, refl, ap, ◌∙◌, arith}
use Rattle.std.proofs.lemmas.Grind.{common_steps}
use Rattle.golf_data.specs.declared.goroutine.Side.{Side}
use Rattle.golf_theory.specs.Maps.{find}
use Rattle.golf_model.specs.Views.{FrameView}
use Rattle.golf_model.specs.State.{State}
use Rattle.golf_model.specs.Changes.{Change}
use Rattle.golf_model.specs.Actors.{Actor, stands, next, at_mutex}
use Rattle.golf_model.specs.Waiters.{first}
use Rattle.golf_model.specs.Mutexes.{unlocks_by, hands_over}
use Rattle.golf_state.specs.FrameChanges.{went}
use Rattle.golf_state.specs.Looked.{runs}
use Rattle.golf_state.proofs.Runnings.{runs-handed}
use Rattle.golf_state.proofs.Doings.{does-is, actor_of}
use Rattle.golf_state.proofs.Outcomings.{done-standing}
use Rattle.golf_state.proofs.Serving.{beside-put, handed-ready, handed-is}
use Rattle.golf_sync.proofs.Outcomes.{hands-free}
use Rattle.golf_sync.proofs.mutexes.unlock_at.Goals as goal

pub hand_over-requires : goal.hand_over-requires
hand_over-requires c =
    let s = c.args.state.now in
    let g = c.args.acting.goroutine.0 in
    let after = c.args.acting.after in
    let b = beside-put g after s c.requires c.proceed.new.state _
    (ap (λ (t : State). t.goroutines) (c.proceed.ensures.state
    ∙ does-is g after s c.requires (λ a. stands a (went after 1 [] a.frame)) c.args.acting.line)) in
    handed-ready s (first c.args.mutex.0 Side.Lock s.goroutines) c.first_waiter-waiting.result
    c.first_waiter-waiting.ensures.first c.first_waiter-waiting.ensures.blocked c.proceed.new.state b

pub returns : goal.returns
returns c =
    let s = c.args.state.now in
    let g = c.args.acting.goroutine.0 in
    let after = c.args.acting.after in
    let b = beside-put g after s c.requires c.proceed.new.state _
    (ap (λ (t : State). t.goroutines) (c.proceed.ensures.state
    ∙ does-is g after s c.requires (λ a. stands a (went after 1 [] a.frame)) c.args.acting.line)) in
    let e = c.hand_over.ensures ∙ handed-is s
    (first c.args.mutex.0 Side.Lock s.goroutines) c.first_waiter-waiting.result c.first_waiter-waiting.ensures.first
    c.first_waiter-waiting.ensures.blocked c.proceed.new.state b c.args.mutex.0 in
    let st = c.requires in
    let o = c.args.mutex.0 in
    let m = first o Side.Lock s.goroutines in
    let act : Actor → List Change = λ a. at_mutex (unlocks_by a (drop 1 a.frame.operands) s o) (find o s.objects) in
    let h : FrameView = next st.frame (drop 1 st.frame.operands) in
    let is : act (actor_of st c.args.acting.line) ≡ stands (actor_of st c.args.acting.line) h ++ hands_over o m =
    grind (arith, common_steps) in (
      (
        grind (arith, common_steps, e),
        ap (runs g) c.hand_over.ensures
            ∙ runs-handed g c.args.mutex.0 c.first_waiter-waiting.result c.proceed.new.state c.proceed.ensures.runs,
      ),
      done-standing g after c.args.acting.line s st act h (hands_over o m) refl (hands-free o m) is,
    )
