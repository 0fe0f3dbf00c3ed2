use Rattle.golf_code_facts.proofs.Expressions.{expressions-follow}
use Rattle.golf_code_facts.proofs.expressions_follow.Goals as goal

pub returns : goal.returns
returns c = expressions-follow
