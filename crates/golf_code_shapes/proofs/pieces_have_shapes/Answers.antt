use Rattle.golf_code_shapes.proofs.Pieces.{pieces-have-shapes}
use Rattle.golf_code_shapes.proofs.pieces_have_shapes.Goals as goal

pub returns : goal.returns
returns c = pieces-have-shapes
