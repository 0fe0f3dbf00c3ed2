use Rattle.golf_syntax.proofs.Found.{imports-read}
use Rattle.golf_syntax.proofs.laws.imports_read.Goals as goal

pub returns : goal.returns
returns c = imports-read
