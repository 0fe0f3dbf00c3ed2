use Rattle.std.proofs.Common.{◌≡◌, true, List, [], ◌∷◌, ◌++◌, refl, ap, ◌∙◌, arith}
use Rattle.std.proofs.lemmas.Grind.{common_steps}
use Rattle.golf_data.specs.declared.goroutine.Side.{Side}
use Rattle.golf_data.specs.declared.value.Object.{Object}
use Rattle.golf_theory.specs.Maps.{put}
use Rattle.golf_model.specs.Views.{FrameView}
use Rattle.golf_model.specs.Changes.{Change}
use Rattle.golf_model.specs.Actors.{Actor, stands}
use Rattle.golf_model.specs.Wakes.{received}
use Rattle.golf_model.specs.Channels.{sends_on, served}
use Rattle.golf_model.specs.Waiters.{first}
use Rattle.golf_state.specs.FrameChanges.{went}
use Rattle.golf_state.specs.Looked.{runs}
use Rattle.golf_state.specs.declared.frames.Wakening.TheVariants as k
use Rattle.golf_state.proofs.Serving.{served-from, served-blocked, served-woken}
use Rattle.golf_state.proofs.Runnings.{runs-woken}
use Rattle.std.proofs.lemmas.Result.{err_from_is_err_and}
use Rattle.golf_state.proofs.Doings.{actor_of}
use Rattle.golf_state.proofs.Outcomings.{done-standing}
use Rattle.golf_state.proofs.PlaceLaws.{put-same}
use Rattle.golf_chan.proofs.Passing.{gone-beside}
use Rattle.golf_chan.proofs.sends.send_on.Goals as goal

pub wake-requires : goal.wake-requires
wake-requires c =
    let s = c.args.state.now in
    let x = c.in-Some-first_waiter.waiting in
    let t = c.proceed.new.state in
    let m = first c.args.object.0 Side.Receive s.goroutines in
    let b = gone-beside c.requires c.args.acting.line c.args.target c.args.taken [] c.proceed.ensures.state t refl in
    served-blocked s m x (served-from s m x c.in-Some-first_waiter.ensures.first c.in-Some-first_waiter.ensures.blocked)
    t b

pub returns-in-Some-first_waiter-clause-ok : goal.returns-in-Some-first_waiter-clause-ok
returns-in-Some-first_waiter-clause-ok c =
    let s = c.args.state.now in
    let g = c.args.acting.goroutine.0 in
    let x = c.in-Some-first_waiter.waiting in
    let t = c.proceed.new.state in
    let m = first c.args.object.0 Side.Receive s.goroutines in
    let b = gone-beside c.requires c.args.acting.line c.args.target c.args.taken [] c.proceed.ensures.state t refl in
    let w = served-from s m x c.in-Some-first_waiter.ensures.first c.in-Some-first_waiter.ensures.blocked in
    let e = c.wake.ensures ∙ served-woken s m x w t b (k.Served x.wait c.received-given.result) in
    let st = c.requires in
    let line = c.args.acting.line in
    let act : Actor → List Change = λ a. sends_on a
    (went c.args.target c.args.taken [] a.frame) c.args.value s c.args.object.0 in
    let h : FrameView = went c.args.target c.args.taken [] st.frame in
    let rest : List Change = served w.waiter (received w.waiter.wait.with_ok c.args.value true) ∷ [] in
    let is : act (actor_of st line) ≡ stands (actor_of st line) h ++ rest = grind (arith, common_steps, w.is) in (
      (
        grind (arith, common_steps, e, w.is, w.told),
        ap (runs g) c.wake.ensures
            ∙ runs-woken g x.goroutine.0 (k.Served x.wait c.received-given.result) t c.proceed.ensures.runs,
      ),
      done-standing g c.args.acting.after line s st act h rest refl refl is,
    )

pub returns-in_err-buffer-clause-err : goal.returns-in_err-buffer-clause-err
returns-in_err-buffer-clause-err c =
    let s = c.args.state.now in
    let o = c.args.object.0 in
    let p = err_from_is_err_and c.from_residual.result c.from_residual.ensures.1 in
    rw p.1
    (ap (λ (x : Object). record s { objects = put o x s.objects }) c.in_err-buffer.ensures.err
    ∙ ap (λ es. record s { objects = es })
    (put-same o 1 c.object_mut.result.now s.objects c.object_mut.ensures.rises c.object_mut.ensures.value))

pub returns-clause-ok : goal.returns-clause-ok
returns-clause-ok c = let e = rw c.one-waits.ensures at c.in_ok-block_at.ensures.ok in grind (arith, common_steps, e)
