use Rattle.golf_meaning_statements.proofs.MadeFunctions.{entry-agrees}
use Rattle.golf_meaning_statements.proofs.entry_agrees.Goals as goal

pub returns : goal.returns
returns c = entry-agrees
