use Rattle.golf_explore_laws.proofs.MainLaws as Law
use Rattle.golf_explore_laws.proofs.closed_lists_never_end.Goals as goal

pub returns-clause-any : goal.returns-clause-any
returns-clause-any c = Law.closed_lists_never_end

pub returns-clause-panics : goal.returns-clause-panics
returns-clause-panics c = Law.closed_lists_never_panic

pub returns-clause-asleep : goal.returns-clause-asleep
returns-clause-asleep c = Law.closed_lists_never_sleep
