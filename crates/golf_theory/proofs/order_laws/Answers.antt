use Rattle.golf_theory.proofs.MainLaws as Law
use Rattle.golf_theory.proofs.order_laws.Goals as goal

pub returns-clause-entries : goal.returns-clause-entries
returns-clause-entries g c = Law.entries_found _

pub returns-clause-keys : goal.returns-clause-keys
returns-clause-keys g c = Law.keys_satisfy _

pub returns-clause-rise : goal.returns-clause-rise
returns-clause-rise g c = Law.keys_rise _
