use Rattle.golf_meaning_flat.proofs.Placing.{placed-follows}
use Rattle.golf_meaning_flat.proofs.placed_code_follows.Goals as goal

pub returns : goal.returns
returns c = placed-follows
