use Rattle.golf_code_shapes.proofs.Mains.{main-fits}
use Rattle.golf_code_shapes.proofs.main_fits.Goals as goal

pub returns : goal.returns
returns c = main-fits
