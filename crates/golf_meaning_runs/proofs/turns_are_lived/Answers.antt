use Rattle.golf_meaning_runs.proofs.Turning.{turns-are-lived}
use Rattle.golf_meaning_runs.proofs.turns_are_lived.Goals as goal

pub returns : goal.returns
returns c = turns-are-lived
