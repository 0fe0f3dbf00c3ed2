use Rattle.golf_syntax_expressions.proofs.Found.{types-read}
use Rattle.golf_syntax_expressions.proofs.laws.types_read.Goals as goal

pub returns : goal.returns
returns c = types-read
