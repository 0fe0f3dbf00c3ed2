use Rattle.golf_model.proofs.Agreeing.{live_list-sound, live_list-complete}
use Rattle.golf_model.proofs.laws.live_law.Goals as goal

pub returns : goal.returns
returns c = record { live = λ s x. (live_list-sound s x, live_list-complete s x) }
