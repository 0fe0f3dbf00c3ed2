use Rattle.golf_syntax.proofs.FileLaws.{one-reads}
use Rattle.golf_syntax.proofs.laws.one_reads.Goals as goal

pub returns : goal.returns
returns c = one-reads
