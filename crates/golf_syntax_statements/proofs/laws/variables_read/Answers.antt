use Rattle.golf_syntax_statements.proofs.Found.{vars-read}
use Rattle.golf_syntax_statements.proofs.laws.variables_read.Goals as goal

pub returns : goal.returns
returns c = vars-read
