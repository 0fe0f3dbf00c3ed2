use Rattle.golf_syntax_statements.proofs.Found.{comms-read}
use Rattle.golf_syntax_statements.proofs.laws.communications_read.Goals as goal

pub returns : goal.returns
returns c = comms-read
