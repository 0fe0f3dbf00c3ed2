use Rattle.std.proofs.Common.{◌≡◌, ◌≤◌, ℕ, List, length, subst, sym, ◌∙◌, arith}
use Rattle.golf_command_sample.specs.File.{file as generated_file}
use Rattle.golf_command_words.specs.declared.line.CommandLine.{CommandLine}
use Rattle.golf_run_texts.specs.declared.status.Status.TheVariants as s
use Rattle.golf_run_texts.specs.Fixed.{most_bytes, no_memory_text}
use Rattle.golf_command.proofs.Sinking.{says}
use Rattle.golf_command.proofs.Filing.{memory-tells}
use Rattle.golf_command.proofs.NeverRefused.{short, not-lexical, not-syntax, not-untyped}
use Rattle.golf_command.proofs.Writing.{written-tells, made-of-parts, same-file}
use Rattle.golf_command.proofs.generated.run_generated.Goals as goal

pub returns-in-Err : goal.returns-in-Err
returns-in-Err g c =
    memory-tells (CommandLine.Generate c.args.parts) (generated_file c.args.parts)
    (c.requires.some, c.requires.most) _ _ c.end.result
    (says _ _ _ _ _ _ s.Memory c.end.result no_memory_text c.end.ensures)

pub returns-in-Ok-read : goal.returns-in-Ok-read
returns-in-Ok-read g c =
    let line = CommandLine.Generate c.args.parts in
    let has = c.in-Ok-read.ensures.answer in
    let bytes = c.as_slice.result.now in
    let code = c.in-Ok-read.code in
    let made = c.surveyed.result in
    let same : bytes ≡ generated_file c.args.parts = c.as_slice.ensures ∙ c.in-Ok.ensures in
    let within : length bytes ≤ most_bytes =
    subst (λ (bs : List ℕ). length bs ≤ most_bytes) (sym same)
    (short c.args.parts c.requires.some c.requires.most) in
    same-file line bytes (generated_file c.args.parts) c.write_texts.result _ _ same
    (written-tells line bytes (c.requires.some, c.requires.most) has.file code
    (record { within = within; typed = has.typed }) has.is has.only made c.write_texts.result _ _
    (made-of-parts c.args.parts has.file code made c.surveyed.ensures) c.write_texts.ensures)

pub read-requires : goal.read-requires
read-requires g c =
    let same : c.as_slice.result.now ≡ generated_file c.args.parts = c.as_slice.ensures ∙ c.in-Ok.ensures in
    let within : length c.as_slice.result.now ≤ most_bytes =
    subst (λ (bs : List ℕ). length bs ≤ most_bytes) (sym same)
    (short c.args.parts c.requires.some c.requires.most) in
    omega arith

pub returns-in-Err-Memory : goal.returns-in-Err-Memory
returns-in-Err-Memory g c =
    memory-tells (CommandLine.Generate c.args.parts) (generated_file c.args.parts)
    (c.requires.some, c.requires.most) _ _ c.end-in-Err-Memory.result
    (says _ _ _ _ _ _ s.Memory c.end-in-Err-Memory.result no_memory_text c.end-in-Err-Memory.ensures)

pub unreachable-requires : goal.unreachable-requires
unreachable-requires g c = not-lexical c.args.parts c.requires.some c.requires.most c.as_slice.result.now
    (c.as_slice.ensures ∙ c.in-Ok.ensures) c.in-Err-Lexical.field-0 c.in-Err-Lexical.ensures.answer _ _
    c.in-Err-Lexical.field-0-is

pub unreachable-requires-in-Err-Syntax : goal.unreachable-requires-in-Err-Syntax
unreachable-requires-in-Err-Syntax g c =
    not-syntax c.args.parts c.requires.some c.requires.most c.as_slice.result.now
    (c.as_slice.ensures ∙ c.in-Ok.ensures) c.in-Err-Syntax.field-0 c.in-Err-Syntax.ensures.answer _
    c.in-Err-Syntax.field-0-is

pub unreachable-requires-in-Err-Untyped : goal.unreachable-requires-in-Err-Untyped
unreachable-requires-in-Err-Untyped g c =
    not-untyped c.args.parts c.requires.some c.requires.most c.as_slice.result.now
    (c.as_slice.ensures ∙ c.in-Ok.ensures) c.in-Err-Untyped.field-0 c.in-Err-Untyped.ensures.answer _ _
    c.in-Err-Untyped.field-0-is
