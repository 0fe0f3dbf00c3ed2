use Rattle.golf_syntax_depth.proofs.Files.{shallow}
use Rattle.golf_syntax_depth.proofs.files_are_shallow.Goals as goal

pub returns : goal.returns
returns c = shallow
