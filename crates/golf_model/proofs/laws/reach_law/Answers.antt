use Rattle.golf_model.proofs.Agreeing.{reach-sound, reach-complete}
use Rattle.golf_model.proofs.laws.reach_law.Goals as goal

pub returns : goal.returns
returns c = record { reached = λ s xs o. (reach-sound s xs o, reach-complete s xs o) }
