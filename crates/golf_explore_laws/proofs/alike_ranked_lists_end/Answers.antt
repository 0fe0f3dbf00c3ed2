use Rattle.golf_explore_laws.proofs.MainLaws as Law
use Rattle.golf_explore_laws.proofs.alike_ranked_lists_end.Goals as goal

pub returns : goal.returns
returns c = Law.alike_ranked_lists_end
