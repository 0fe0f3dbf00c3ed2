use Rattle.golf_meaning_runs.proofs.Functions.{functions-fit}
use Rattle.golf_meaning_runs.proofs.functions_fit.Goals as goal

pub returns : goal.returns
returns c = functions-fit
