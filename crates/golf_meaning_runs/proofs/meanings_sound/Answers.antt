use Rattle.golf_meaning_runs.proofs.WholeFiles.{files-sound}
use Rattle.golf_meaning_runs.proofs.meanings_sound.Goals as goal

pub returns : goal.returns
returns c = files-sound
