use Rattle.golf_meaning_runs.proofs.Expressions.{expressions-fit}
use Rattle.golf_meaning_runs.proofs.expressions_fit.Goals as goal

pub returns : goal.returns
returns c = expressions-fit
