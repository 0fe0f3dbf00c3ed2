use Rattle.golf_reader.proofs.Refusing.{of-tokens, unlexed}
use Rattle.golf_reader.proofs.file_reader.parsed.Goals as goal

pub returns-in-Ok : goal.returns-in-Ok
returns-in-Ok c = of-tokens c.args.bytes.now c.in-Ok.tokens c.tree.result c.in-Ok.ensures.answer
    (rw c.as_slice.ensures at c.tree.ensures)

pub returns-in-Err-At : goal.returns-in-Err-At
returns-in-Err-At c =
    let answer = rw (c.in-Err-At.field-0-is) at c.in-Err-At.ensures.answer in
    rw (c.in-Err-At.line-is, c.in-Err-At.byte-is)
    (unlexed c.args.bytes.now c.in-Err-At.line c.in-Err-At.byte answer.0 answer.1)
