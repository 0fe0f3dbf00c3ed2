use Rattle.golf_reader.proofs.Refusing.{of-tree}
use Rattle.golf_reader.proofs.file_reader.judge.Goals as goal

pub returns : goal.returns
returns c = of-tree c.args.bytes.now c.in_ok-file.file c.judged.result c.in_ok-file.ensures c.judged.ensures
