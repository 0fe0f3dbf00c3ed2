use Rattle.std.proofs.Common.{List, map, ap, ◌∙◌}
use Rattle.golf_base.specs.declared.ids.GoroutineId.{GoroutineId}
use Rattle.golf_bench_machine.proofs.Leading.{stays-count, first-stays}
use Rattle.golf_bench_machine.proofs.collections.free.Goals as goal

pub retain_goroutines-requires-clause-count : goal.retain_goroutines-requires-clause-count
retain_goroutines-requires-clause-count c =
    stays-count _ _ _ _ (c.as_slice-flags.ensures ∙ c.in_ok-stays.ensures)
    (ap (λ (gs : List GoroutineId). map (λ g. g.0) gs) c.as_slice.ensures ∙ c.in_ok-goroutines.ensures.present)

pub retain_goroutines-requires-clause-zero : goal.retain_goroutines-requires-clause-zero
retain_goroutines-requires-clause-zero c =
    first-stays 0 c.as_slice-flags.result.now c.args.state.now.goroutines c.goroutines.ensures.rises
    c.goroutines.ensures.zero (c.is_first_set.ensures c.if-is_first_set.true)
