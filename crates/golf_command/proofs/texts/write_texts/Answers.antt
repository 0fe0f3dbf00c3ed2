use Rattle.golf_run_texts.specs.declared.status.Status.TheVariants as s
use Rattle.golf_run_texts.specs.Fixed.{no_memory_text}
use Rattle.golf_command.proofs.Sinking.{says}
use Rattle.golf_command.proofs.Writing.{none-written}
use Rattle.golf_command.proofs.texts.write_texts.Goals as goal

pub returns-in-Err : goal.returns-in-Err
returns-in-Err g c = none-written c.args.made c.in-Err.field-0 c.end.result _ _ c.in-Err.is
    (says _ _ _ _ _ _ s.Memory c.end.result no_memory_text c.end.ensures)
