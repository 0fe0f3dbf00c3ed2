use Rattle.golf_explore_laws.proofs.MainLaws as Law
use Rattle.golf_explore_laws.proofs.alike_lists_never_end.Goals as goal

pub returns : goal.returns
returns c = Law.alike_lists_never_end
