use Rattle.golf_model_typing.proofs.Leading.{never-stuck}
use Rattle.golf_model_typing.proofs.never_stuck.Goals as goal

pub returns : goal.returns
returns c = never-stuck
