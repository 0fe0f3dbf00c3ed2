use Rattle.std.proofs.Common.{◌≡◌, true, List, [], ◌∷◌, ◌++◌, refl, ap, ◌∙◌, arith}
use Rattle.std.specs.Prelude.{drop}
use Rattle.std.proofs.lemmas.Grind.{common_steps}
use Rattle.golf_data.specs.declared.value.Object.{Object}
use Rattle.golf_theory.specs.Maps.{find}
use Rattle.golf_model.specs.Views.{FrameView}
use Rattle.golf_model.specs.Changes.{Change}
use Rattle.golf_model.specs.Actors.{Actor, at_channel, next, stands}
use Rattle.golf_model.specs.Wakes.{Waking}
use Rattle.golf_model.specs.Channels.{closes_open}
use Rattle.golf_state.specs.Looked.{runs}
use Rattle.golf_state.specs.Woken.{waking_of}
use Rattle.golf_state.specs.declared.wake_causes.Waking.TheVariants as k
use Rattle.golf_state.proofs.Doings.{actor_of}
use Rattle.golf_state.proofs.Outcomings.{done-replacing}
use Rattle.golf_state.proofs.Runnings.{runs-all}
use Rattle.golf_chan.proofs.closes.close_at.Goals as goal

pub returns : goal.returns
returns c =
    let g = c.args.acting.goroutine.0 in
    let s = c.args.state.now in
    let o = c.args.object.0 in
    let st = c.requires in
    let line = c.args.acting.line in
    let ch = c.in-Some.channel.now in
    let act : Actor → List Change = λ a. at_channel (closes_open a (drop 1 a.frame.operands) o) (find o s.objects) in
    let h : FrameView = next st.frame (drop 1 st.frame.operands) in
    let x : Object = Object.Chan (record ch { closed = true }) in
    let rest : List Change = Change.WakeAll o (Waking.Closing ch.zero) ∷ [] in
    let is : act (actor_of st line) ≡ Change.Replace o x ∷ (stands (actor_of st line) h ++ rest) =
    grind (arith, common_steps) in (
      (
        grind (arith, common_steps),
        ap (runs g) c.wake_all.ensures
            ∙ runs-all g c.args.object.0 (waking_of (k.Closing c.in-Some.channel.now.zero)) c.proceed.new.state
            c.proceed.ensures.runs,
      ),
      done-replacing g c.args.acting.after line s st act h rest refl refl o x is,
    )
