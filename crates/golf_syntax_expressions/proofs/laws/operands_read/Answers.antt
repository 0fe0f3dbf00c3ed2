use Rattle.golf_syntax_expressions.proofs.Found.{operands-read}
use Rattle.golf_syntax_expressions.proofs.laws.operands_read.Goals as goal

pub returns : goal.returns
returns c = operands-read
