use Rattle.golf_theory.proofs.MainLaws as Law
use Rattle.golf_theory.proofs.cut_laws.Goals as goal

pub returns : goal.returns
returns g c = record { goes = Law.only_goes _ }
