use Rattle.golf_code_never_stuck.proofs.Plain.{plain-runs-go-on}
use Rattle.golf_code_never_stuck.proofs.plain_runs_go_on.Goals as goal

pub returns : goal.returns
returns c = plain-runs-go-on
