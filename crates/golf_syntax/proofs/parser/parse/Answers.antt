use Rattle.golf_syntax.proofs.FileLaws.{accepts, refuses}
use Rattle.golf_syntax.proofs.parser.parse.Goals as goal

pub returns-clause-accepts : goal.returns-clause-accepts
returns-clause-accepts c = accepts c.args.tokens.now c.file_of.result c.file_of.ensures

pub returns-clause-refuses : goal.returns-clause-refuses
returns-clause-refuses c = refuses c.args.tokens.now c.file_of.result c.file_of.ensures
