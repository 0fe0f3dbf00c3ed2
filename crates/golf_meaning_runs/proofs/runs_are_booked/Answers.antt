use Rattle.golf_meaning_runs.proofs.BookedRuns.{runs-are-booked}
use Rattle.golf_meaning_runs.proofs.runs_are_booked.Goals as goal

pub returns : goal.returns
returns c = runs-are-booked
