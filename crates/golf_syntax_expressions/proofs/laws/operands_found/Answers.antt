use Rattle.golf_syntax_expressions.proofs.Found.{operands-found}
use Rattle.golf_syntax_expressions.proofs.laws.operands_found.Goals as goal

pub returns : goal.returns
returns c = operands-found
