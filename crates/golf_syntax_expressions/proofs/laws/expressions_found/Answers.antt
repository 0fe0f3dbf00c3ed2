use Rattle.golf_syntax_expressions.proofs.Found.{expressions-found}
use Rattle.golf_syntax_expressions.proofs.laws.expressions_found.Goals as goal

pub returns : goal.returns
returns c = expressions-found
