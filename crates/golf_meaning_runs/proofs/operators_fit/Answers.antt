use Rattle.golf_meaning_runs.proofs.Operators.{operators-fit}
use Rattle.golf_meaning_runs.proofs.operators_fit.Goals as goal

pub returns : goal.returns
returns c = operators-fit
