use Rattle.golf_syntax.proofs.Found.{declarations-found}
use Rattle.golf_syntax.proofs.laws.declarations_found.Goals as goal

pub returns : goal.returns
returns c = declarations-found
