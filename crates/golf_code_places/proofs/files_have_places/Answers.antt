use Rattle.golf_code_places.proofs.Files.{files-have-places}
use Rattle.golf_code_places.proofs.files_have_places.Goals as goal

pub returns : goal.returns
returns c = files-have-places
