use Rattle.std.proofs.Common.{◌++◌, List, [], ◌∷◌, length, map, take, refl, sym, ap, ◌∙◌, subst}
use Rattle.std.proofs.lemmas.List.{map-append}
use Rattle.std.proofs.lemmas.Option.{slice_get_read}
use Rattle.golf_data.specs.declared.goroutine.Frame.{Frame}
use Rattle.golf_model.specs.Views.{FrameView, frame_view}
use Rattle.golf_state_goroutines.specs.Roominess.{AllRoomy}
use Rattle.golf_state_goroutines.proofs.Copying.{map-more, roomy-push}
use Rattle.golf_state_goroutines.proofs.copies.copied_frames.Goals as goal

pub loop-frame-preserved : goal.loop-frame-preserved
loop-frame-preserved c =
    let fs = c.args.frames.now in
    let i = c.loop-frame.frame-index in
    let f = c.frame-item.result in
    let x = c.in_ok-copied_frame.field-0 in
    record {
      views = ap (λ (gs : List Frame). map frame_view gs) c.in_ok-push.ensures.ok
          ∙ map-append frame_view c.loop-frame.copies (x ∷ [])
          ∙ ap (λ (vs : List FrameView). vs ++ frame_view x ∷ []) c.loop-frame.invariant.views
          ∙ ap (λ (v : FrameView). map frame_view (take i fs) ++ v ∷ []) c.in_ok-copied_frame.ensures.view
          ∙ sym (map-more frame_view fs i f (slice_get_read fs (length fs) i f refl c.loop-frame-test.true c.frame-item.is));
      room = subst (λ (gs : List Frame). AllRoomy gs) (sym c.in_ok-push.ensures.ok)
          (roomy-push c.loop-frame.copies x c.loop-frame.invariant.room c.in_ok-copied_frame.ensures.room);
    }
