use Rattle.golf_syntax_statements.proofs.Found.{statements-found}
use Rattle.golf_syntax_statements.proofs.laws.statements_found.Goals as goal

pub returns : goal.returns
returns c = statements-found
