use Rattle.golf_syntax_statements.proofs.Found.{headers-read}
use Rattle.golf_syntax_statements.proofs.laws.headers_read.Goals as goal

pub returns : goal.returns
returns c = headers-read
