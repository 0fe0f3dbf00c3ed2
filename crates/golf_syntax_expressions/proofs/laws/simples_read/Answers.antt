use Rattle.golf_syntax_expressions.proofs.Found.{simples-read}
use Rattle.golf_syntax_expressions.proofs.laws.simples_read.Goals as goal

pub returns : goal.returns
returns c = simples-read
