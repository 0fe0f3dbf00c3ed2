use Rattle.golf_syntax_statements.proofs.Found.{headers-found}
use Rattle.golf_syntax_statements.proofs.laws.headers_found.Goals as goal

pub returns : goal.returns
returns c = headers-found
