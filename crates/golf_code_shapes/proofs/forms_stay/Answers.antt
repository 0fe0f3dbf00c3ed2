use Rattle.golf_code_shapes.proofs.Forms.{forms-stay}
use Rattle.golf_code_shapes.proofs.forms_stay.Goals as goal

pub returns : goal.returns
returns c = forms-stay
