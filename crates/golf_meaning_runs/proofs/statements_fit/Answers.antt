use Rattle.golf_meaning_runs.proofs.Statements.{statements-fit}
use Rattle.golf_meaning_runs.proofs.statements_fit.Goals as goal

pub returns : goal.returns
returns c = statements-fit
