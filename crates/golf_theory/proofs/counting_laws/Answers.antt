use Rattle.golf_theory.proofs.MainLaws as Law
use Rattle.golf_theory.proofs.counting_laws.Goals as goal

pub returns-clause-counted : goal.returns-clause-counted
returns-clause-counted c = Law.counted

pub returns-clause-members : goal.returns-clause-members
returns-clause-members c = Law.members_count
