use Rattle.std.proofs.Common.{◌+◌, ◌∷◌, List, sym, ap, ◌∙◌, drop}
use Rattle.std.specs.Prelude.{IsSome, is_some, slice_get}
use Rattle.golf_data.specs.declared.value.Value.{Value}
use Rattle.golf_theory.specs.Maps.{find}
use Rattle.golf_model.specs.Views.{FrameView, frame_views}
use Rattle.golf_model.specs.State.{State}
use Rattle.golf_model.specs.Wakes.{on_top}
use Rattle.golf_model.specs.Values.{reference}
use Rattle.golf_model.specs.Changes.{apply_all}
use Rattle.golf_model.specs.Actors.{stands, goes}
use Rattle.golf_model.specs.Structures.{makes}
use Rattle.golf_state.specs.ActorChanges.{Stands}
use Rattle.golf_state.specs.FrameChanges.{exchanged}
use Rattle.golf_state.specs.Operands.{top_operands}
use Rattle.golf_state.proofs.Doings.{does-is, actor_of, stands-is, frames-is, exchanged-is}
use Rattle.golf_state.proofs.outcome.make_over.Goals as goal

pub returns-clause-ok : goal.returns-clause-ok
returns-clause-ok c =
    let s = c.args.state.now in
    let g = c.args.acting.goroutine.0 in
    let after = c.args.acting.after in
    let st = c.requires.stands in
    let t = c.make.new.self in
    let x = Value.Ref c.in_ok-made.made in
    let made = c.in_ok-made.ensures.ok in
    let now : Stands g after t = record {
      frame = st.frame;
      callers = st.callers;
      started = st.started;
      found = ap (λ (u : State). find g u.goroutines) made ∙ st.found;
      next = st.next;
    } in
    let has : IsSome (slice_get st.frame.operands 0) =
    ap (λ (fs : List FrameView). is_some (slice_get (top_operands fs) 0)) (sym (frames-is g after s st))
    ∙ c.requires.operand in
    let top = exchanged-is after x st.frame st.frame.operands has in
    let e = stands-is g after t now (exchanged after x) (frame_views c.exchange.new.frames) c.args.acting.line
    (c.exchange.ensures ∙ ap (on_top (exchanged after x)) c.frames_mut.ensures.value) in
    let A = actor_of st c.args.acting.line in
    let rest = drop 1 st.frame.operands in
    e
    ∙ ap (λ (f : FrameView). apply_all (stands A f) t)
    (top ∙ ap (λ n. record st.frame { at = n; operands = x ∷ rest }) st.next)
    ∙ ap (λ n. apply_all (goes A (Value.Ref (record { 0 = n }) ∷ rest)) t) c.in_ok-made.ensures.number
    ∙ ap (apply_all (goes A (reference (s.last_object + 1) ∷ rest))) made
    ∙ sym (does-is g after s st (λ a. makes a c.args.object (drop 1 a.frame.operands) s) c.args.acting.line)
