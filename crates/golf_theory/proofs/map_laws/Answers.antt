use Rattle.golf_theory.proofs.MainLaws as Law
use Rattle.golf_theory.proofs.map_laws.Goals as goal

pub returns-clause-put : goal.returns-clause-put
returns-clause-put g c = Law.find_put _

pub returns-clause-add : goal.returns-clause-add
returns-clause-add g c = Law.find_add _

pub returns-clause-only : goal.returns-clause-only
returns-clause-only g c = Law.find_only _
