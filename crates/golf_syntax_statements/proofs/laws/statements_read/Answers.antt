use Rattle.golf_syntax_statements.proofs.Found.{statements-read}
use Rattle.golf_syntax_statements.proofs.laws.statements_read.Goals as goal

pub returns : goal.returns
returns c = statements-read
