use Rattle.golf_syntax_segments.proofs.Whole.{imports-are}
use Rattle.golf_syntax_segments.proofs.laws.imports_are_segments.Goals as goal

pub returns : goal.returns
returns c = imports-are
