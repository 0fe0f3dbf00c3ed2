use Rattle.golf_explore_laws.proofs.LocalTurns.{local-instructions}
use Rattle.golf_explore_laws.proofs.local_instructions.Goals as goal

pub returns : goal.returns
returns c = local-instructions
