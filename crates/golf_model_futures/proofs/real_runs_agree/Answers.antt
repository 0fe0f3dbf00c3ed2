use Rattle.golf_model_futures.proofs.MainLaws as Law
use Rattle.golf_model_futures.proofs.real_runs_agree.Goals as goal

pub returns : goal.returns
returns c = Law.real_runs_agree
