use Rattle.golf_run.proofs.laws.faults_leave_prefixes.Goals as goal
use Rattle.golf_run.proofs.Prefixes.{prefixes}

pub returns : goal.returns
returns c = prefixes
