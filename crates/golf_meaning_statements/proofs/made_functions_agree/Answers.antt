use Rattle.golf_meaning_statements.proofs.MadeFunctions.{made-functions-agree}
use Rattle.golf_meaning_statements.proofs.made_functions_agree.Goals as goal

pub returns : goal.returns
returns c = made-functions-agree
