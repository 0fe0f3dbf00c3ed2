use Rattle.golf_explore_laws.proofs.MainLaws as Law
use Rattle.golf_explore_laws.proofs.ranked_lists_end.Goals as goal

pub returns-clause-within : goal.returns-clause-within
returns-clause-within c = Law.ranked_lists_end

pub returns-clause-always : goal.returns-clause-always
returns-clause-always c = Law.ranked_lists_always_end
