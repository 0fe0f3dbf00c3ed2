use Rattle.golf_run.proofs.laws.leaks_are_reported.Goals as goal
use Rattle.golf_run.proofs.Reported.{leaks-reported}

pub returns : goal.returns
returns c = leaks-reported
