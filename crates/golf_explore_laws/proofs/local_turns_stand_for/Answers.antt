use Rattle.golf_explore_laws.proofs.StandIns.{local-stands, closed-up-to-local, ranked-up-to-local}
use Rattle.golf_explore_laws.proofs.local_turns_stand_for.Goals as goal

pub returns-clause-stand : goal.returns-clause-stand
returns-clause-stand c = local-stands

pub returns-clause-closed : goal.returns-clause-closed
returns-clause-closed c = closed-up-to-local

pub returns-clause-ranked : goal.returns-clause-ranked
returns-clause-ranked c = ranked-up-to-local
