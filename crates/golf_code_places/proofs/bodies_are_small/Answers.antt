use Rattle.golf_code_places.proofs.Files.{bodies-small}
use Rattle.golf_code_places.proofs.bodies_are_small.Goals as goal

pub returns : goal.returns
returns c = bodies-small
