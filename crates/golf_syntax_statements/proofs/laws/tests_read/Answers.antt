use Rattle.golf_syntax_statements.proofs.Found.{tests-read}
use Rattle.golf_syntax_statements.proofs.laws.tests_read.Goals as goal

pub returns : goal.returns
returns c = tests-read
