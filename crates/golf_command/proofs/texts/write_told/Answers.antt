use Rattle.golf_run_texts.specs.declared.status.Status.TheVariants as s
use Rattle.golf_run_texts.specs.Fixed.{no_memory_text}
use Rattle.golf_command.proofs.Sinking.{says}
use Rattle.golf_command.proofs.Writing.{none-told, same-text, told-cut, told-whole}
use Rattle.golf_command.proofs.texts.write_told.Goals as goal

pub returns-in-Err : goal.returns-in-Err
returns-in-Err g c = none-told c.args.made c.in-Err.field-0 c.end.result _ _ c.in-Err.is
    (says _ _ _ _ _ _ s.Memory c.end.result no_memory_text c.end.ensures)

pub returns-in-Ok-write_all : goal.returns-in-Ok-write_all
returns-in-Ok-write_all g c =
    same-text c.args.made c.in-Ok.text _ s.Clean _ _ c.in-Ok.is c.as_slice.ensures
    (told-whole _ _ _ _ _ _ c.as_slice.result.now c.in-Ok-write_all.ensures.ok
    c.in-Ok-write_all.ensures.cause.steady)

pub returns : goal.returns
returns g c =
    same-text c.args.made c.in-Ok.text _ s.WriteFault _ _ c.in-Ok.is c.as_slice.ensures
    (told-cut _ _ _ _ _ _ c.as_slice.result.now c.in-Err-write_all.ensures.prefix
    c.in-Err-write_all.ensures.cause.failed)
