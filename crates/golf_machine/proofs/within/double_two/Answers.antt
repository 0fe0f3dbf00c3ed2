use Rattle.golf_model.specs.Views.{frame_view}
use Rattle.golf_model.proofs.ViewForms.{reverse-push}
use Rattle.golf_machine.proofs.Inner.{doubled-two}
use Rattle.golf_machine.proofs.within.double_two.Goals as goal

pub returns-clause-ok : goal.returns-clause-ok
returns-clause-ok c = doubled-two (frame_view c.args.frame.now) _ c.in-Some.first c.in-Some.second c.in-Some.ensures
    (rw (c.push_ready-2.ensures.slots, c.push_ready.ensures.slots, c.reserve.ensures.slots)
    (rw (c.push_ready-2.ensures.items, c.push_ready.ensures.items, c.reserve.ensures.items) (simp reverse-push)))
