use Rattle.golf_syntax.proofs.Found.{imports-found}
use Rattle.golf_syntax.proofs.laws.imports_found.Goals as goal

pub returns : goal.returns
returns c = imports-found
