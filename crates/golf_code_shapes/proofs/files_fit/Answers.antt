use Rattle.golf_code_shapes.proofs.WholeFiles.{files-fit}
use Rattle.golf_code_shapes.proofs.files_fit.Goals as goal

pub returns : goal.returns
returns c = files-fit
