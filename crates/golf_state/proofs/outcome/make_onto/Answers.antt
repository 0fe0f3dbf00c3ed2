use Rattle.std.proofs.Common.{◌≡◌, true, [], ◌∷◌, List, Ok, Err, ap, ◌∙◌, arith}
use Rattle.std.specs.Prelude.{Result, OnErr, is_err}
use Rattle.golf_base.specs.declared.Memory.{Memory}
use Rattle.golf_base.specs.declared.ids.ObjectId.{ObjectId}
use Rattle.golf_data.specs.declared.value.Value.{Value}
use Rattle.golf_model.specs.Views.{frame_views}
use Rattle.golf_model.specs.State.{State}
use Rattle.golf_model.specs.Changes.{Change}
use Rattle.golf_model.specs.Actors.{Actor, stands}
use Rattle.golf_model.specs.Wakes.{on_top}
use Rattle.golf_state.specs.FrameChanges.{went}
use Rattle.golf_state.specs.Looked.{frames_in, is_running_in}
use Rattle.golf_state.proofs.Doings.{does-is, found-after, taken-back}
use Rattle.golf_state.proofs.outcome.make_onto.Goals as goal

failed : (r : Result ObjectId Memory) (s t : State) → true ≡ is_err r → OnErr r (t ≡ s) → t ≡ s
failed (Ok x) s t h e = cc
failed (Err x) s t h e = e

pub frames_mut-frames-requires : goal.frames_mut-frames-requires
frames_mut-frames-requires c =
    let s = c.args.state.now in
    let g = c.args.acting.goroutine.0 in
    let after = c.args.acting.after in
    let st = c.requires in
    let vs = Value.Ref (record { 0 = c.in_ok-number.number }) ∷ [] in
    let act : Actor → List Change = λ a. stands a (went after 0 vs a.frame) in
    let now = failed c.make.result c.proceed_with.new.state c.make.new.self c.if-is_err.ensures.value c.make.ensures.err
    ∙ c.in_ok-proceed_with.ensures.ok ∙ does-is g after s st act c.args.acting.line in
    ap is_running_in (found-after g after s st (went after 0 vs st.frame) c.args.acting.line c.make.new.self now)

pub returns-then-is_err-clause-err : goal.returns-then-is_err-clause-err
returns-then-is_err-clause-err c =
    let s = c.args.state.now in
    let g = c.args.acting.goroutine.0 in
    let after = c.args.acting.after in
    let st = c.requires in
    let vs = Value.Ref (record { 0 = c.in_ok-number.number }) ∷ [] in
    let act : Actor → List Change = λ a. stands a (went after 0 vs a.frame) in
    let f = went after 0 vs st.frame in
    let now = failed c.make.result c.proceed_with.new.state c.make.new.self c.if-is_err.ensures.value c.make.ensures.err
    ∙ c.in_ok-proceed_with.ensures.ok ∙ does-is g after s st act c.args.acting.line in
    let back : c.saturating_sub.result ≡ st.frame.at = omega (arith, c.saturating_sub.ensures, st.next) in
    let frames : frame_views c.advance.new.frames ≡ st.frame ∷ st.callers =
    c.advance.ensures
    ∙ ap (on_top (went c.saturating_sub.result 1 []))
    (c.frames_mut-frames.ensures.value ∙ ap frames_in
    (found-after g after s st f c.args.acting.line c.make.new.self now))
    ∙ ap (λ n. went n 1 [] f ∷ st.callers) back in
    taken-back g after s st f c.args.acting.line c.make.new.self
    (frame_views c.advance.new.frames) c.frames_mut-frames.ensures.rises now frames
