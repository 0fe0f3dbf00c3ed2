use Rattle.golf_code_shapes.proofs.Stmts.{statements-fit}
use Rattle.golf_code_shapes.proofs.statements_fit.Goals as goal

pub returns : goal.returns
returns c = statements-fit
