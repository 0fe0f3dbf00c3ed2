use Rattle.golf_meaning_runs.proofs.Agreeing.{programs-agree}
use Rattle.golf_meaning_runs.proofs.programs_agree.Goals as goal

pub returns : goal.returns
returns c = programs-agree
