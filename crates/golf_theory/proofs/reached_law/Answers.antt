use Rattle.golf_theory.proofs.MainLaws as Law
use Rattle.golf_theory.proofs.reached_law.Goals as goal

pub returns : goal.returns
returns g c = record { least = Law.reached_least _ }
