use Rattle.golf_command.proofs.Writing.{line-cut, text-cut}
use Rattle.golf_command.proofs.texts.write_both.Goals as goal

pub returns-in-Err-write_all : goal.returns-in-Err-write_all
returns-in-Err-write_all g c = line-cut _ _ _ _ _ _ _ _ c.args.text.now c.args.line.now c.in-Ok.ensures.ok
    c.in-Ok.ensures.cause.steady c.in-Err-write_all.ensures.prefix c.in-Err-write_all.ensures.cause.failed

pub returns-in-Err : goal.returns-in-Err
returns-in-Err g c = text-cut _ _ _ _ _ _ c.args.text.now c.args.line.now c.in-Err.ensures.prefix
    c.in-Err.ensures.cause.failed
