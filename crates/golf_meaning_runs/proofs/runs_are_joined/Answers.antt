use Rattle.golf_meaning_runs.proofs.JoinedRuns.{runs-are-joined}
use Rattle.golf_meaning_runs.proofs.runs_are_joined.Goals as goal

pub returns : goal.returns
returns c = runs-are-joined
