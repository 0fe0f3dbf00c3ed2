use Rattle.golf_meaning_runs.proofs.Inner.{inner-turns}
use Rattle.golf_meaning_runs.proofs.inner_turns_mean.Goals as goal

pub returns : goal.returns
returns c = inner-turns
