use Rattle.std.proofs.Common.{◌++◌, refl, ◌∙◌}
use Rattle.std.specs.Prelude.{codes, decimal}
use Rattle.golf_run_texts.proofs.Growing.{one-more}
use Rattle.golf_run.specs.TurnLines.{more_goroutines}
use Rattle.golf_run.proofs.TurnLines.{numbers}
use Rattle.golf_run.proofs.turn_lines.add_more.Goals as goal

pub loop-goroutine-preserved : goal.loop-goroutine-preserved
loop-goroutine-preserved c =
    one-more (λ g. codes ", goroutine " ++ decimal g.0) (λ gs. more_goroutines (numbers gs)) refl
    (λ g gs. refl) c.args.goroutines.now c.loop-goroutine.goroutine-index _ c.args.line.now c.loop-goroutine.line
    c.extend_from_slice.new.self c.as_bytes.result.now c.loop-goroutine-test.true c.loop-goroutine.invariant
    (c.as_bytes.ensures.value ∙ c.in_ok-goroutine_text.ensures) c.in_ok-extend_from_slice.ensures.ok
