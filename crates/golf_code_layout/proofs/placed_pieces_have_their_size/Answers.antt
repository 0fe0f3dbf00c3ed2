use Rattle.golf_code_layout.proofs.Sizes.{placed-size}
use Rattle.golf_code_layout.proofs.placed_pieces_have_their_size.Goals as goal

pub returns : goal.returns
returns c = placed-size
