use Rattle.golf_code_shapes.proofs.Globals.{names-fit}
use Rattle.golf_code_shapes.proofs.names_fit.Goals as goal

pub returns : goal.returns
returns c = names-fit
