use Rattle.golf_code_of.proofs.Walks.{walks-agree}
use Rattle.golf_code_of.proofs.walks_agree.Goals as goal

pub returns : goal.returns
returns c = walks-agree
