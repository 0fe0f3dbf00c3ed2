use Rattle.golf_code_shapes.proofs.Functions.{made-functions-fit}
use Rattle.golf_code_shapes.proofs.made_functions_fit.Goals as goal

pub returns : goal.returns
returns c = made-functions-fit
