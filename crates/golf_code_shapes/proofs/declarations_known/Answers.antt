use Rattle.golf_code_shapes.proofs.Globals.{declarations-known}
use Rattle.golf_code_shapes.proofs.declarations_known.Goals as goal

pub returns : goal.returns
returns c = declarations-known
