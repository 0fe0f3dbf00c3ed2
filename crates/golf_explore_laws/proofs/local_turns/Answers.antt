use Rattle.golf_explore_laws.proofs.LocalTurns.{local-turns}
use Rattle.golf_explore_laws.proofs.local_turns.Goals as goal

pub returns : goal.returns
returns c = local-turns
