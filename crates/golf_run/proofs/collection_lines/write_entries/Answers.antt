use Rattle.std.proofs.Common.{[], ◌∷◌, map, refl, ◌∙◌}
use Rattle.golf_run_texts.specs.Texts.{entry_line}
use Rattle.golf_run.proofs.Lines.{loop-next, loop-cut}
use Rattle.golf_run.proofs.collection_lines.write_entries.Goals as goal

pub returns-in_err-write_entry : goal.returns-in_err-write_entry
returns-in_err-write_entry g c =
    loop-cut (λ k e. entry_line e ∷ []) (λ k es. map entry_line es) (λ k. refl)
    (λ k e es. refl) c.args.entries.now c.loop-entry.entry-index _ _ c.loop-entry-test.true
    c.loop-entry.invariant.written c.loop-entry.invariant.steady
    (record {
      fault = c.in_err-write_entry.field-0.0;
      outcome = c.write_entry.result;
      was = c.in_err-write_entry.was;
      written = c.write_entry.ensures;
      failed = c.from_residual.ensures.0;
      same = c.from_residual.ensures.1;
    })

pub loop-entry-preserved : goal.loop-entry-preserved
loop-entry-preserved g c = record {
  written = loop-next (λ k e. entry_line e ∷ []) (λ k es. map entry_line es) (λ k. refl)
      (λ k e es. refl) c.args.entries.now c.loop-entry.entry-index _ _ _ _ c.loop-entry-test.true
      c.loop-entry.invariant.written c.in_ok-write_entry.ensures.0;
  steady = c.in_ok-write_entry.ensures.1 ∙ c.loop-entry.invariant.steady;
}
