use Rattle.golf_syntax_expressions.proofs.Found.{types-found}
use Rattle.golf_syntax_expressions.proofs.laws.types_found.Goals as goal

pub returns : goal.returns
returns c = types-found
