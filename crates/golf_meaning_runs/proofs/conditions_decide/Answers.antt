use Rattle.golf_meaning_runs.proofs.Operators.{conditions-decide}
use Rattle.golf_meaning_runs.proofs.conditions_decide.Goals as goal

pub returns : goal.returns
returns c = conditions-decide
