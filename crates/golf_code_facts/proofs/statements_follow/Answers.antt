use Rattle.golf_code_facts.proofs.Statements.{statements-follow}
use Rattle.golf_code_facts.proofs.statements_follow.Goals as goal

pub returns : goal.returns
returns c = statements-follow
