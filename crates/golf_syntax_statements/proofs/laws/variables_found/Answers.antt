use Rattle.golf_syntax_statements.proofs.Found.{vars-found}
use Rattle.golf_syntax_statements.proofs.laws.variables_found.Goals as goal

pub returns : goal.returns
returns c = vars-found
