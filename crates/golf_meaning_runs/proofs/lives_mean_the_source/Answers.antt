use Rattle.golf_meaning_runs.proofs.Sources.{lives-mean-source}
use Rattle.golf_meaning_runs.proofs.lives_mean_the_source.Goals as goal

pub returns : goal.returns
returns c = lives-mean-source
