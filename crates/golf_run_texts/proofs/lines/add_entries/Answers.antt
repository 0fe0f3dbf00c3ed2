use Rattle.std.proofs.Common.{refl, ◌∙◌}
use Rattle.golf_run_texts.specs.Texts.{entry_line, entry_lines}
use Rattle.golf_run_texts.proofs.Growing.{one-more}
use Rattle.golf_run_texts.proofs.lines.add_entries.Goals as goal

pub loop-entry-preserved : goal.loop-entry-preserved
loop-entry-preserved c =
    one-more entry_line entry_lines refl (λ e es. refl) c.args.entries.now c.loop-entry.entry-index _ c.args.text.now
    c.loop-entry.text c.extend_from_slice.new.self c.as_bytes.result.now c.loop-entry-test.true
    c.loop-entry.invariant
    (c.as_bytes.ensures.value ∙ c.in_ok-entry_line.ensures) c.in_ok-extend_from_slice.ensures.ok
