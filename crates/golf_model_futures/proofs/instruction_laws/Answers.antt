use Rattle.golf_model_futures.proofs.MainLaws as Law
use Rattle.golf_model_futures.proofs.instruction_laws.Goals as goal

pub returns-clause-moves : goal.returns-clause-moves
returns-clause-moves c = Law.instructions_move_members

pub returns-clause-same : goal.returns-clause-same
returns-clause-same c = Law.instructions_same
