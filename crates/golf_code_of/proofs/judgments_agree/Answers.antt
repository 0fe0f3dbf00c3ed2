use Rattle.golf_code_of.proofs.Judgments.{judgments-agree}
use Rattle.golf_code_of.proofs.judgments_agree.Goals as goal

pub returns : goal.returns
returns c = judgments-agree
