use Rattle.golf_code_facts.proofs.Files.{files-follow}
use Rattle.golf_code_facts.proofs.files_follow.Goals as goal

pub returns : goal.returns
returns c = files-follow
