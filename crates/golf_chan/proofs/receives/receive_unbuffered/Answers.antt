use Rattle.std.proofs.Common.{◌≡◌, true, List, [], ◌∷◌, ◌++◌, refl, ap, ◌∙◌, arith}
use Rattle.std.proofs.lemmas.Grind.{common_steps}
use Rattle.golf_data.specs.declared.goroutine.Side.{Side}
use Rattle.golf_theory.specs.Maps.{find}
use Rattle.golf_model.specs.Views.{FrameView}
use Rattle.golf_model.specs.Changes.{Change}
use Rattle.golf_model.specs.Actors.{Actor, stands}
use Rattle.golf_model.specs.Wakes.{received}
use Rattle.golf_model.specs.Channels.{receives_on, given, served}
use Rattle.golf_model.specs.Waiters.{first}
use Rattle.golf_state.specs.FrameChanges.{went}
use Rattle.golf_state.specs.Looked.{values_of, runs}
use Rattle.golf_state.specs.declared.frames.Wakening.TheVariants as k
use Rattle.golf_state.specs.declared.frames.Given.TheVariants as v
use Rattle.golf_state.proofs.Doings.{actor_of}
use Rattle.golf_state.proofs.Outcomings.{done-standing}
use Rattle.golf_state.proofs.Runnings.{runs-woken}
use Rattle.golf_state.proofs.Serving.{served-from, served-blocked, served-woken}
use Rattle.golf_chan.proofs.Buffers.{empty-channel}
use Rattle.golf_chan.proofs.Passing.{gone-beside}
use Rattle.golf_chan.proofs.receives.receive_unbuffered.Goals as goal

pub wake-requires : goal.wake-requires
wake-requires c =
    let s = c.args.state.now in
    let x = c.in-Some.waiting in
    let t = c.proceed_with.new.state in
    let m = first c.args.object.0 Side.Send s.goroutines in
    let b = gone-beside c.requires.stands c.args.acting.line c.args.receiving.target c.args.receiving.taken
    (values_of c.received-given.result) c.in_ok-proceed_with.ensures.ok t refl in
    served-blocked s m x (served-from s m x c.in-Some.ensures.first c.in-Some.ensures.blocked) t b

pub returns-in-Some-clause-ok : goal.returns-in-Some-clause-ok
returns-in-Some-clause-ok c =
    let s = c.args.state.now in
    let g = c.args.acting.goroutine.0 in
    let o = c.args.object.0 in
    let x = c.in-Some.waiting in
    let t = c.proceed_with.new.state in
    let m = first o Side.Send s.goroutines in
    let b = gone-beside c.requires.stands c.args.acting.line c.args.receiving.target c.args.receiving.taken
    (values_of c.received-given.result) c.in_ok-proceed_with.ensures.ok t refl in
    let w = served-from s m x c.in-Some.ensures.first c.in-Some.ensures.blocked in
    let e = c.wake.ensures ∙ served-woken s m x w t b (k.Served x.wait v.Nothing) in
    let ch = empty-channel c.args.zero (find o s.objects) c.requires.empty in
    let st = c.requires.stands in
    let line = c.args.acting.line in
    let after : Actor → FrameView = λ a. went c.args.receiving.target c.args.receiving.taken [] a.frame in
    let act : Actor → List Change = λ a. receives_on a (after a) c.args.receiving.with_ok s o in
    let h : FrameView = given (after (actor_of st line)) (received c.args.receiving.with_ok w.waiter.wait.value true) in
    let rest : List Change = served w.waiter [] ∷ [] in
    let is : act (actor_of st line) ≡ stands (actor_of st line) h ++ rest =
    grind (arith, common_steps, w.is, ch.1, ch.2) in (
      (
        grind (arith, common_steps, e, w.is, w.told, ch.1, ch.2),
        ap (runs g) c.wake.ensures
            ∙ runs-woken g x.goroutine.0 (k.Served x.wait v.Nothing) t c.in_ok-proceed_with.ensures.runs,
      ),
      done-standing g c.args.acting.after line s st act h rest refl refl is,
    )

pub returns-clause-ok : goal.returns-clause-ok
returns-clause-ok c =
    let ch = empty-channel c.args.zero (find c.args.object.0 c.args.state.now.objects) c.requires.empty in
    let e = rw c.one-waits.ensures at c.in_ok-block_at.ensures.ok in
    grind (arith, common_steps, e, ch.1, ch.2)
