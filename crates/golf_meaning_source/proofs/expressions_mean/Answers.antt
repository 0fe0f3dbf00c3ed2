use Rattle.golf_meaning_source.proofs.Exprs.{expressions-mean}
use Rattle.golf_meaning_source.proofs.expressions_mean.Goals as goal

pub returns : goal.returns
returns c = expressions-mean
