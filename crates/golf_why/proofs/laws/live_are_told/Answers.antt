use Rattle.golf_why.proofs.Living.{live_told}
use Rattle.golf_why.proofs.laws.live_are_told.Goals as goal

pub returns : goal.returns
returns c = record { told = live_told }
