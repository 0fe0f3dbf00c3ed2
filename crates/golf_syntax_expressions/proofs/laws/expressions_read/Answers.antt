use Rattle.golf_syntax_expressions.proofs.Found.{expressions-read}
use Rattle.golf_syntax_expressions.proofs.laws.expressions_read.Goals as goal

pub returns : goal.returns
returns c = expressions-read
