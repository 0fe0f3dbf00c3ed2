use Rattle.golf_code_shapes.proofs.Bodies.{bodies-fit}
use Rattle.golf_code_shapes.proofs.bodies_fit.Goals as goal

pub returns : goal.returns
returns c = bodies-fit
