use Rattle.golf_explore_laws.proofs.Commuting.{local-changes-commute}
use Rattle.golf_explore_laws.proofs.local_changes_commute.Goals as goal

pub returns : goal.returns
returns c = local-changes-commute
