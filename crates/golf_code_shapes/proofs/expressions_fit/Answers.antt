use Rattle.golf_code_shapes.proofs.Exprs.{expressions-fit}
use Rattle.golf_code_shapes.proofs.expressions_fit.Goals as goal

pub returns : goal.returns
returns c = expressions-fit
