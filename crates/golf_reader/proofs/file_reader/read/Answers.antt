use Rattle.golf_reader.proofs.Refusing.{has-code, has-places}
use Rattle.golf_reader.proofs.file_reader.read.Goals as goal

pub returns-clause-answer : goal.returns-clause-answer
returns-clause-answer c = has-code c.args.bytes.now c.in_ok-checked.checked c.in_ok-code.code
    c.in_ok-checked.ensures.0 c.in_ok-code.ensures

pub returns-clause-places : goal.returns-clause-places
returns-clause-places c = has-places c.args.bytes.now c.in_ok-checked.checked c.in_ok-code.code
    c.in_ok-checked.ensures.0 c.in_ok-code.ensures c.requires
