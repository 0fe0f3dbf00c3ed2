use Rattle.golf_code_never_stuck.proofs.Reaching.{files-have-shapes}
use Rattle.golf_code_never_stuck.proofs.files_have_shapes.Goals as goal

pub returns : goal.returns
returns c = files-have-shapes
