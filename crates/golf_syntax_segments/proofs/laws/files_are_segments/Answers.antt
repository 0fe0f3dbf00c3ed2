use Rattle.golf_syntax_segments.proofs.Whole.{files-are}
use Rattle.golf_syntax_segments.proofs.laws.files_are_segments.Goals as goal

pub returns : goal.returns
returns c = files-are
