use Rattle.golf_model_typing.proofs.NeededSlots.{masked-fit}
use Rattle.golf_model_typing.proofs.masked_functions_fit.Goals as goal

pub returns : goal.returns
returns c = masked-fit
