use Rattle.golf_code_shapes.proofs.Functions.{functions-fit}
use Rattle.golf_code_shapes.proofs.functions_fit.Goals as goal

pub returns : goal.returns
returns c = functions-fit
