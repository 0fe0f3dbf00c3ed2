use Rattle.golf_explore_laws.proofs.MainLaws as Law
use Rattle.golf_explore_laws.proofs.alike_states_stand_for.Goals as goal

pub returns-clause-stand : goal.returns-clause-stand
returns-clause-stand c = Law.alike_states_stand_for

pub returns-clause-back : goal.returns-clause-back
returns-clause-back c = Law.alike_back

pub returns-clause-then : goal.returns-clause-then
returns-clause-then c = Law.alike_then

pub returns-clause-own : goal.returns-clause-own
returns-clause-own c = Law.alike_self
