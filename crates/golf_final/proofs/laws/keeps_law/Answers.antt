use Rattle.golf_final.proofs.KeepLaw.{keeps-alike}
use Rattle.golf_final.proofs.laws.keeps_law.Goals as goal

pub returns : goal.returns
returns c = keeps-alike
