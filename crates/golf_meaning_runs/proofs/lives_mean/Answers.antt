use Rattle.golf_meaning_runs.proofs.Living.{lives-mean}
use Rattle.golf_meaning_runs.proofs.lives_mean.Goals as goal

pub returns : goal.returns
returns c = lives-mean
