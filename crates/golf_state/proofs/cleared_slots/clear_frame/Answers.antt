use Rattle.std.proofs.Common.{◌∙◌, sym}
use Rattle.golf_model.specs.Views.{frame_view}
use Rattle.golf_state.proofs.ClearingLaws.{without-mask}
use Rattle.golf_state.proofs.cleared_slots.clear_frame.Goals as goal

pub returns-in_default : goal.returns-in_default
returns-in_default c = without-mask c.args.code.now (frame_view c.args.frame.now) c.in-No.is
    (sym c.in_default.is ∙ c.mask_at.ensures)
