use Rattle.golf_meaning_statements.proofs.WholeFiles.{files-agree}
use Rattle.golf_meaning_statements.proofs.files_agree.Goals as goal

pub returns : goal.returns
returns c = files-agree
