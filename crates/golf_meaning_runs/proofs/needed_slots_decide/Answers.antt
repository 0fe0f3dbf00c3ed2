use Rattle.golf_meaning_runs.proofs.Needing.{needed-decide}
use Rattle.golf_meaning_runs.proofs.needed_slots_decide.Goals as goal

pub returns : goal.returns
returns c = needed-decide
