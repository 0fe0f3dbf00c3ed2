use Rattle.golf_syntax_expressions.proofs.Found.{simples-found}
use Rattle.golf_syntax_expressions.proofs.laws.simples_found.Goals as goal

pub returns : goal.returns
returns c = simples-found
