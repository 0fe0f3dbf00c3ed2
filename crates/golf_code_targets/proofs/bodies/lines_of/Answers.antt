use Rattle.std.proofs.Common.{◌+◌, drop, length, slice_set, sym, ap, ◌∙◌}
use Rattle.golf_code_layout.specs.declared.emitted.Emitted.TheVariants as emit
use Rattle.golf_code_targets.specs.Walks.{line_steps}
use Rattle.golf_code_targets.proofs.Taken.{taken, long}
use Rattle.golf_code_targets.proofs.bodies.lines_of.Goals as goal

pub loop-at-preserved : goal.loop-at-preserved
loop-at-preserved c =
    let found = c.args.found.now in
    let ms = c.loop-at.emitted in
    let n = c.loop-at.at in (
      ap (λ ns. line_steps found (drop (n + 1) ns) c.step.new.body) c.take_part-part.ensures.rest
          ∙ ap (λ b. line_steps found (drop (n + 1) (slice_set ms n emit.End)) b) c.in_ok-step.ensures
          ∙ sym (ap (λ ns. line_steps found ns c.loop-at.body)
          (taken ms n c.take_part-part.result emit.End c.take_part-part.ensures.part))
          ∙ c.loop-at.invariant.0,
      ap length c.take_part-part.ensures.rest ∙ long ms n emit.End ∙ c.loop-at.invariant.1,
    )
