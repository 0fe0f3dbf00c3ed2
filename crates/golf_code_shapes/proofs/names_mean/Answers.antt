use Rattle.golf_code_shapes.proofs.Callees.{names-mean}
use Rattle.golf_code_shapes.proofs.names_mean.Goals as goal

pub returns : goal.returns
returns c = names-mean
