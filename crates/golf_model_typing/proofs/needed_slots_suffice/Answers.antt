use Rattle.golf_model_typing.proofs.NeededSlots.{needed-slots-suffice}
use Rattle.golf_model_typing.proofs.needed_slots_suffice.Goals as goal

pub returns : goal.returns
returns c = needed-slots-suffice
