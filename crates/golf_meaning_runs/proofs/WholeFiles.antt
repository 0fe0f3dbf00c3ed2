-- The names of a file that breaks no rule fit, so its meanings lack no rule.
-- For: `FilesSound` (golf_meaning_runs/specs/WholeFileLaws.antt) and `meanings_sound` (src/lib.rt)
-- By: two lemmas, put together; no induction
use Rattle.golf_code_shapes.proofs.Globals.{names-fit}
use Rattle.golf_meaning_runs.proofs.TypedFiles.{files-fit}
use Rattle.golf_meaning_runs.specs.WholeFileLaws.{FilesSound}

pub files-sound : FilesSound
files-sound file typed good = files-fit file typed good (names-fit file typed)
