use Rattle.golf_lex.proofs.Faults.{faults-once}
use Rattle.golf_lex.proofs.laws.faults_once.Goals as goal

pub returns : goal.returns
returns c = faults-once
