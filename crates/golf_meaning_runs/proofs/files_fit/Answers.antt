use Rattle.golf_meaning_runs.proofs.TypedFiles.{files-fit}
use Rattle.golf_meaning_runs.proofs.files_fit.Goals as goal

pub returns : goal.returns
returns c = files-fit
