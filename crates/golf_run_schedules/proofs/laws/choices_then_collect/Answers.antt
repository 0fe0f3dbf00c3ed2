use Rattle.golf_run_schedules.proofs.Collecting.{then-collect}
use Rattle.golf_run_schedules.proofs.laws.choices_then_collect.Goals as goal

pub returns : goal.returns
returns c = then-collect
