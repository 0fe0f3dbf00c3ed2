use Rattle.golf_model.proofs.Agreeing.{dead-sound, dead-complete}
use Rattle.golf_model.proofs.laws.dead_law.Goals as goal

pub returns : goal.returns
returns c = record { dead = λ s g. (dead-sound s g, dead-complete s g) }
