use Rattle.golf_theory.proofs.MainLaws as Law
use Rattle.golf_theory.proofs.least_law.Goals as goal

pub returns : goal.returns
returns g c = record { derived = Law.least_derived _ }
