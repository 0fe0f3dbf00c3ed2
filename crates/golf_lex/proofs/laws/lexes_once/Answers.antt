use Rattle.golf_lex.proofs.Scans.{lexes-once}
use Rattle.golf_lex.proofs.laws.lexes_once.Goals as goal

pub returns : goal.returns
returns c = lexes-once
