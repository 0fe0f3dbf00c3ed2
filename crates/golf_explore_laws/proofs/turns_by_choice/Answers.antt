use Rattle.golf_explore_laws.proofs.MainLaws as Law
use Rattle.golf_explore_laws.proofs.turns_by_choice.Goals as goal

pub returns : goal.returns
returns c = Law.turns_by_choice
