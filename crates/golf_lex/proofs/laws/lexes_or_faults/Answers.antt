use Rattle.golf_lex.proofs.Faults.{lexes-or-faults}
use Rattle.golf_lex.proofs.laws.lexes_or_faults.Goals as goal

pub returns : goal.returns
returns c = lexes-or-faults
