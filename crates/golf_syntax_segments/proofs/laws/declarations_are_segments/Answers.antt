use Rattle.golf_syntax_segments.proofs.Whole.{decls-are}
use Rattle.golf_syntax_segments.proofs.laws.declarations_are_segments.Goals as goal

pub returns : goal.returns
returns c = decls-are
