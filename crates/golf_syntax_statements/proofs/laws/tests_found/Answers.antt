use Rattle.golf_syntax_statements.proofs.Found.{tests-found}
use Rattle.golf_syntax_statements.proofs.laws.tests_found.Goals as goal

pub returns : goal.returns
returns c = tests-found
