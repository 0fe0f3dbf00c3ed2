use Rattle.std.proofs.Common.{◌≡◌, true, sym, subst, ◌∙◌, arith}
use Rattle.std.specs.Prelude.{Ok}
use Rattle.std.proofs.lemmas.Grind.{common_steps}
use Rattle.golf_syntax.specs.Parses.{Declared}
use Rattle.golf_syntax.specs.SegmentReader.{is_package}
use Rattle.golf_syntax.proofs.FileLaws.{too_complex, not-read, all-read}
use Rattle.golf_syntax.proofs.parser.file_of.Goals as goal

pub returns-in-Some : goal.returns-in-Some
returns-in-Some c = too_complex c.args.tokens.now c.in-Some.line (sym c.in_ok-line.ensures ∙ c.in-Some.is)

pub returns-in-Err : goal.returns-in-Err
returns-in-Err c =
    let main : is_package c.in-Some-front_segment.package.now ≡ true = grind (arith, common_steps) in
    not-read c.args.tokens.now c.in-Some-front_segment.package.now c.in-Some-front_segment.rest.now
    c.in_ok-imports.left.now c.in_ok-imports.imports c.in-Err.fault
    (sym c.in_ok-line.ensures ∙ c.in_default.is) c.in-Some-front_segment.ensures.value main
    c.in_ok-imports.ensures c.in-Err.ensures

pub returns-in-Ok : goal.returns-in-Ok
returns-in-Ok c =
    let main : is_package c.in-Some-front_segment.package.now ≡ true = grind (arith, common_steps) in
    all-read c.args.tokens.now c.in-Some-front_segment.package.now c.in-Some-front_segment.rest.now
    c.in_ok-imports.left.now c.in_ok-imports.imports c.into_inner.result
    (sym c.in_ok-line.ensures ∙ c.in_default.is) c.in-Some-front_segment.ensures.value main
    c.in_ok-imports.ensures (subst (λ ds. Declared c.in_ok-imports.left.now (Ok ds))
    (sym c.into_inner.ensures) c.in-Ok.ensures)
