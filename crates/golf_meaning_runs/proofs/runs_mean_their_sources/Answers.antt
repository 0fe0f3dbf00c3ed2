use Rattle.golf_meaning_runs.proofs.Runs.{runs-mean-sources}
use Rattle.golf_meaning_runs.proofs.runs_mean_their_sources.Goals as goal

pub returns : goal.returns
returns c = runs-mean-sources
