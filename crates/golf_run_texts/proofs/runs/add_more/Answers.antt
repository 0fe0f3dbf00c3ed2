use Rattle.std.proofs.Common.{◌++◌, refl, ◌∙◌}
use Rattle.std.specs.Prelude.{codes, decimal}
use Rattle.golf_run_texts.specs.Texts.{more_numbers}
use Rattle.golf_run_texts.proofs.Growing.{one-more}
use Rattle.golf_run_texts.proofs.runs.add_more.Goals as goal

pub loop-number-preserved : goal.loop-number-preserved
loop-number-preserved c =
    one-more (λ n. codes "," ++ decimal n) more_numbers refl
    (λ n ns. refl) c.args.numbers.now c.loop-number.number-index _ c.args.text.now c.loop-number.text
    c.extend_from_slice.new.self c.as_bytes.result.now c.loop-number-test.true c.loop-number.invariant
    (c.as_bytes.ensures.value ∙ c.in_ok-after_comma.ensures) c.in_ok-extend_from_slice.ensures.ok
