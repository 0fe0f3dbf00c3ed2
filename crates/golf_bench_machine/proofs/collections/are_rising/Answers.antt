use Rattle.golf_bench_machine.proofs.Ordered.{rising}
use Rattle.golf_bench_machine.proofs.collections.are_rising.Goals as goal

pub returns : goal.returns
returns c = λ yes. rising c.args.goroutines.now c.is_sorted.result yes c.is_sorted.ensures.cases
