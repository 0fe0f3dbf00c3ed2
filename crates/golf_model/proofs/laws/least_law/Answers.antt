use Rattle.golf_model.proofs.GraphLaws.{least_places-sound, least_places-complete}
use Rattle.golf_model.proofs.laws.least_law.Goals as goal

pub returns : goal.returns
returns c = record { least = λ g p. (least_places-sound g p, least_places-complete g p) }
