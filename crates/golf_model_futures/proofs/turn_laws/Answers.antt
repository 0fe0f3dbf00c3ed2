use Rattle.golf_model_futures.proofs.MainLaws as Law
use Rattle.golf_model_futures.proofs.turn_laws.Goals as goal

pub returns-clause-keep : goal.returns-clause-keep
returns-clause-keep c = Law.turns_keep

pub returns-clause-same : goal.returns-clause-same
returns-clause-same c = Law.turns_cut
