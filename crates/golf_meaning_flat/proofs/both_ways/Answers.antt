use Rattle.golf_meaning_flat.proofs.Bounds.{both-ways}
use Rattle.golf_meaning_flat.proofs.both_ways.Goals as goal

pub returns : goal.returns
returns c = both-ways
