use Rattle.golf_syntax_statements.proofs.Found.{comms-found}
use Rattle.golf_syntax_statements.proofs.laws.communications_found.Goals as goal

pub returns : goal.returns
returns c = comms-found
