use Rattle.golf_meaning_statements.proofs.Stmts.{statements-mean}
use Rattle.golf_meaning_statements.proofs.statements_mean.Goals as goal

pub returns : goal.returns
returns c = statements-mean
