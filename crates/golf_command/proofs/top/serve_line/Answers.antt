use Rattle.std.proofs.Common.{Some, ap, ◌∙◌, refl}
use Rattle.golf_command_words.specs.declared.line.CommandLine.{CommandLine}
use Rattle.golf_run_texts.specs.declared.status.Status.TheVariants as s
use Rattle.golf_run_texts.specs.Fixed.{usage_text, no_memory_text}
use Rattle.golf_command.proofs.Sinking.{says}
use Rattle.golf_command.proofs.Calling.{generated-line, tells-reading, tells-generate, tells-usage, tells-memory}
use Rattle.golf_command.proofs.Asking.{found-line}
use Rattle.golf_command.proofs.top.serve_line.Goals as goal

pub returns-in-Ok-Some-Run : goal.returns-in-Ok-Some-Run
returns-in-Ok-Some-Run g c words is = tells-reading words _ _ _ _ _ _
    (CommandLine.Run c.in-Ok-Some-Run.options) c.run_source.result tt
    (found-line words c.args.line c.in-Ok-Some-Run.field-0 _ c.in-Ok-Some-Run.is
    (c.in-Ok-Some-Run.field-0-is ∙ ap (λ (l : CommandLine). Some l) c.in-Ok-Some-Run.field-0-0-is) is)
    c.run_source.ensures

pub returns-in-Ok-Some-Generate : goal.returns-in-Ok-Some-Generate
returns-in-Ok-Some-Generate g c words is =
    tells-generate words _ _ _ _ _ _ c.in-Ok-Some-Generate.parts c.run_generated.result
    (found-line words c.args.line c.in-Ok-Some-Generate.field-0 _ c.in-Ok-Some-Generate.is
    (c.in-Ok-Some-Generate.field-0-is ∙ ap (λ (l : CommandLine). Some l) c.in-Ok-Some-Generate.field-0-0-is) is)
    (generated-line c.in-Ok-Some-Generate.parts _ _ c.run_generated.result _ _ c.run_generated.ensures) refl refl

pub returns-in-Ok-Some-Meaning : goal.returns-in-Ok-Some-Meaning
returns-in-Ok-Some-Meaning g c words is = tells-reading words _ _ _ _ _ _ CommandLine.Meaning c.serve_meaning.result tt
    (found-line words c.args.line c.in-Ok-Some-Meaning.field-0 _ c.in-Ok-Some-Meaning.is
    (c.in-Ok-Some-Meaning.field-0-is ∙ ap (λ (l : CommandLine). Some l) c.in-Ok-Some-Meaning.field-0-0-is) is)
    c.serve_meaning.ensures

pub returns-in-Ok-None : goal.returns-in-Ok-None
returns-in-Ok-None g c words is = tells-usage words _ _ _ _ _ _ c.end.result
    (found-line words c.args.line c.in-Ok-None.field-0 _ c.in-Ok-None.is c.in-Ok-None.field-0-is is)
    (says _ _ _ _ _ _ s.Usage c.end.result usage_text c.end.ensures) refl refl

pub returns-in-Err : goal.returns-in-Err
returns-in-Err g c words is = tells-memory words _ _ _ _ _ _ c.end-in-Err.result
    (says _ _ _ _ _ _ s.Memory c.end-in-Err.result no_memory_text c.end-in-Err.ensures) refl refl
