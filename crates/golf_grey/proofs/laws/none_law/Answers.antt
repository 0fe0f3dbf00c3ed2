use Rattle.golf_grey.proofs.Telling.{tells_nothing_new}
use Rattle.golf_grey.proofs.laws.none_law.Goals as goal

pub returns : goal.returns
returns c = tells_nothing_new
