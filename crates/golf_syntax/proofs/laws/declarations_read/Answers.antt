use Rattle.golf_syntax.proofs.Found.{declarations-read}
use Rattle.golf_syntax.proofs.laws.declarations_read.Goals as goal

pub returns : goal.returns
returns c = declarations-read
