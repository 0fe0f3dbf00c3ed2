use Rattle.std.proofs.Common.{Bool, not, ◌&&◌, sym, ap, ◌∙◌}
use Rattle.golf_model.specs.Views.{frame_views}
use Rattle.golf_model.specs.State.{not_empty}
use Rattle.golf_state.proofs.Tops.{no_frames}
use Rattle.golf_state.proofs.places.is_idle.Goals as goal

pub returns-then-is_running : goal.returns-then-is_running
returns-then-is_running c =
    let r = c.args.goroutine.now in
    no_frames c.is_empty.result r.frames c.is_empty.ensures
    ∙ sym (ap (λ (b : Bool). b && not (not_empty (frame_views r.frames)))
    (sym c.is_running.ensures ∙ c.if-is_running.true))
