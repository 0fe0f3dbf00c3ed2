use Rattle.golf_meaning_statements.proofs.Agreeing.{functions-agree}
use Rattle.golf_meaning_statements.proofs.functions_agree.Goals as goal

pub returns : goal.returns
returns c = functions-agree
