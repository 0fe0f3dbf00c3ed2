use Rattle.golf_meaning_runs.proofs.NameValues.{names-give}
use Rattle.golf_meaning_runs.proofs.names_give.Goals as goal

pub returns : goal.returns
returns c = names-give
